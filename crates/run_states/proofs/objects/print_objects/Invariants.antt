-- The atoms from this number on are left.
use Rattle.std.proofs.Common.{[], ◌∷◌, codes, drop}
use Rattle.plant_model.specs.System.{plant_of}
use Rattle.text_io.specs.Numbered.{numbered}
use Rattle.text_io.proofs.Leading.{Leads}
use Rattle.run_text.specs.Word.{separated_after, separated_by}
use Rattle.run_states.specs.Objects.{atom_object, objects_of}
use Rattle.run_states.specs.OfAtoms.{of_atom}
use Rattle.run_states.proofs.objects.print_objects.Given as goal

abbrev pub invariant-loop-number : goal.invariant-loop-number
invariant-loop-number g l =
    Leads (g.W.Write.contents l.initial.output) (g.W.Write.contents l.output)
    (separated_after l.between (codes ",") (numbered (of_atom (λ n a state. atom_object a state ∷ []) l.plant.states.now) l.number (drop l.number (plant_of l.plant.system.now).atoms)))
    (separated_by (codes ",") (objects_of (plant_of l.plant.system.now) l.plant.states.now))
