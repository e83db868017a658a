-- The faults that were found, and those that the text still has, are all.
use Rattle.std.proofs.Common.{◌≡◌, ◌-◌, ◌++◌}
use Rattle.line_faults.specs.Faults.{faults_in}
use Rattle.line_faults.proofs.finding.faults_of_text.Given as goal

abbrev pub invariant-loop-round : goal.invariant-loop-round
invariant-loop-round l = l.faults.items ++ faults_in (l.most - l._round) l.rest.items ≡ faults_in l.most l.text
