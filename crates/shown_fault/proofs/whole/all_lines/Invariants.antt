-- The lines that are left stand after those so far.
use Rattle.std.proofs.Common.{◌≡◌, ◌++◌, length}
use Rattle.shown_fault.specs.Lent.{lists_of}
use Rattle.plant_words.specs.Lines.{lines_of}
use Rattle.shown_fault.proofs.whole.all_lines.Given as goal

abbrev pub invariant-loop-line : goal.invariant-loop-line
invariant-loop-line l = lists_of l.all.items ++ l.lines ≡ lines_of l.text

abbrev pub decreases-loop-line : goal.decreases-loop-line
decreases-loop-line l = length l.lines
