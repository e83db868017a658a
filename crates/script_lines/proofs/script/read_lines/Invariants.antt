-- What is left to read means, after events that were kept where there was memory for them, what the script means; and the number of each
-- line fits.
use Rattle.std.proofs.Common.{◌≡◌, ◌+◌, ◌≤◌, List, length, IfOk}
use Rattle.plant_model.specs.System.{plant_of}
use Rattle.text_io.specs.declared.reading.TheConstants.{MAX_TEXT}
use Rattle.plant_core.specs.declared.events.Event.{Event}
use Rattle.script_lines.specs.Script.{script_meaning}
use Rattle.script_lines.proofs.Lines.{meant_behind}
use Rattle.script_lines.proofs.script.read_lines.Given as goal

abbrev pub invariant-loop-line : goal.invariant-loop-line
invariant-loop-line l = record {
  before : List Event;
  kept : IfOk l.events (λ events. events.items ≡ before);
  leads : meant_behind (plant_of l.system) l.number before l.lines ≡ script_meaning (plant_of l.system) l.text;
  fits : l.number + length l.lines ≤ MAX_TEXT + 1;
}

abbrev pub decreases-loop-line : goal.decreases-loop-line
decreases-loop-line l = length l.lines
