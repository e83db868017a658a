-- The atoms from this number on are left.
use Rattle.std.proofs.Common.{drop}
use Rattle.step_core.specs.Running.{plant_in, states_in}
use Rattle.text_io.specs.Numbered.{numbered}
use Rattle.text_io.proofs.Leading.{Leads}
use Rattle.plant_drawing.specs.Drawing.{drawn_atom}
use Rattle.plant_drawing.proofs.plant.print_atoms.Given as goal

abbrev pub invariant-loop-number : goal.invariant-loop-number
invariant-loop-number g l =
    Leads (g.W.Write.contents l.initial.output) (g.W.Write.contents l.output)
    (numbered (drawn_atom l.interior l.drawn (states_in l.run)) l.number (drop l.number (plant_in l.run).atoms))
    (numbered (drawn_atom l.interior l.drawn (states_in l.run)) 0 (plant_in l.run).atoms)
