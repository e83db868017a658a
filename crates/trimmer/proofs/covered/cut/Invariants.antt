use Rattle.std.proofs.Common.{◌≡◌, ◌≤◌, ◌+◌, ◌-◌, length, drop}
use Rattle.std.specs.List.{prefix_len}
use Rattle.trimmer.specs.Covered.{is_covered}
use Rattle.trimmer.proofs.covered.cut.Given as goal

-- the records so far are covered, and the others say how many more are
abbrev pub invariant-loop-covered : goal.invariant-loop-covered
invariant-loop-covered l =
    (l.covered ≤ length l.records) ×
    (l.covered + prefix_len (is_covered l.saved) (drop l.covered l.records) ≡ prefix_len (is_covered l.saved) l.records)

abbrev pub decreases-loop-covered : goal.decreases-loop-covered
decreases-loop-covered l = length l.records - l.covered
