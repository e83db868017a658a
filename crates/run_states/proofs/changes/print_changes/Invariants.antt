-- The atoms from this number on are left.
use Rattle.std.proofs.Common.{drop}
use Rattle.plant_model.specs.System.{plant_of}
use Rattle.text_io.specs.Numbered.{numbered}
use Rattle.text_io.proofs.Leading.{Leads}
use Rattle.run_states.specs.Changes.{changes_of, changes_to}
use Rattle.run_states.specs.OfAtoms.{of_atom}
use Rattle.run_states.proofs.changes.print_changes.Given as goal

abbrev pub invariant-loop-number : goal.invariant-loop-number
invariant-loop-number g l =
    Leads (g.W.Write.contents l.initial.output) (g.W.Write.contents l.output)
    (numbered (of_atom (changes_to l.before) l.states) l.number (drop l.number (plant_of l.system).atoms))
    (changes_of (plant_of l.system) l.before l.states)
