-- What is left to find in the lines that are left is what was to be found; and the number of each line fits.
use Rattle.std.proofs.Common.{◌≡◌, ◌+◌, ◌≤◌, length}
use Rattle.std.specs.Prelude.{slice_get}
use Rattle.text_io.specs.Numbered.{numbered}
use Rattle.text_io.specs.declared.reading.TheConstants.{MAX_TEXT}
use Rattle.script_lines.specs.Script.{event_lines, number_if_asks}
use Rattle.script_lines.proofs.script.line_of_event.Given as goal

abbrev pub invariant-loop-line : goal.invariant-loop-line
invariant-loop-line l = record {
  same : slice_get (numbered number_if_asks l.number l.lines) l.left ≡ slice_get (event_lines l.text) l.place;
  fits : l.number + length l.lines ≤ MAX_TEXT + 1;
}

abbrev pub decreases-loop-line : goal.decreases-loop-line
decreases-loop-line l = length l.lines
