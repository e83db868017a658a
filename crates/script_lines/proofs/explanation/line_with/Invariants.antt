-- The line is one of those that are left.
use Rattle.std.proofs.Common.{◌≡◌, ◌-◌, length}
use Rattle.std.specs.Prelude.{slice_get}
use Rattle.plant_words.specs.Lines.{lines_of}
use Rattle.script_lines.proofs.explanation.line_with.Given as goal

abbrev pub invariant-loop-line : goal.invariant-loop-line
invariant-loop-line l = slice_get l.lines l.left ≡ slice_get (lines_of l.text) (l.number - 1)

abbrev pub decreases-loop-line : goal.decreases-loop-line
decreases-loop-line l = length l.lines
