-- The atoms from this number on are left.
use Rattle.std.proofs.Common.{drop}
use Rattle.plant_model.specs.System.{plant_of}
use Rattle.plant_core.specs.Plants.{view_of}
use Rattle.text_io.specs.Numbered.{numbered}
use Rattle.text_io.proofs.Leading.{Leads}
use Rattle.run_text.specs.Line.{state_line, state_text, states_text}
use Rattle.script_lines.proofs.standing.print_present.Given as goal

abbrev pub invariant-loop-number : goal.invariant-loop-number
invariant-loop-number g l =
    Leads (g.W.Write.contents l.initial.output) (g.W.Write.contents l.output)
    (numbered (state_text state_line (view_of l.plant).present) l.number (drop l.number (plant_of l.system).atoms))
    (states_text (plant_of l.system) (view_of l.plant).present)
