-- The atoms from this number on are left.
use Rattle.std.proofs.Common.{drop}
use Rattle.plant_model.specs.System.{plant_of}
use Rattle.text_io.specs.Numbered.{numbered}
use Rattle.text_io.proofs.Leading.{Leads}
use Rattle.run_states.specs.OfAtoms.{of_atom}
use Rattle.run_states.specs.Values.{atom_values, values_of}
use Rattle.run_states.proofs.values.print_values.Given as goal

abbrev pub invariant-loop-number : goal.invariant-loop-number
invariant-loop-number g l =
    Leads (g.W.Write.contents l.initial.output) (g.W.Write.contents l.output)
    (numbered (of_atom atom_values l.plant.states.now) l.number (drop l.number (plant_of l.plant.system.now).atoms))
    (values_of (plant_of l.plant.system.now) l.plant.states.now)
