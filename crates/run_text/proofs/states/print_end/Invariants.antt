-- The atoms from this number on are left.
use Rattle.std.proofs.Common.{drop}
use Rattle.plant_model.specs.System.{plant_of}
use Rattle.text_io.specs.Numbered.{numbered}
use Rattle.text_io.proofs.Leading.{Leads}
use Rattle.run_text.specs.Format.{atom_text, end_text}
use Rattle.run_text.specs.Line.{state_text}
use Rattle.run_text.proofs.states.print_end.Given as goal

abbrev pub invariant-loop-number : goal.invariant-loop-number
invariant-loop-number g l =
    Leads (g.W.Write.contents l.initial.output) (g.W.Write.contents l.output)
    (numbered (state_text (atom_text l.format) l.plant.states.now) l.number (drop l.number (plant_of l.plant.system.now).atoms))
    (end_text l.format (plant_of l.plant.system.now) l.plant.states.now)
