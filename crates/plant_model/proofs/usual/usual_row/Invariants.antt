use Rattle.std.proofs.Common.{◌≡◌, ℕ, map, length}
use Rattle.std.specs.Prelude.{Option, Some, slice_get}
use Rattle.petri_atom.specs.Atom.{definition_of}
use Rattle.plant_model.specs.Usual.{IsUsual}
use Rattle.plant_model.specs.declared.usual.Usual.{Usual}
use Rattle.plant_model.proofs.usual.usual_row.Given as goal

abbrev pub invariant-loop-transition : goal.invariant-loop-transition
invariant-loop-transition l =
    (length l.row.items ≡ l.transition) ×
    ((t : ℕ) (found : Option Usual) → slice_get l.row.items t ≡ Some found → (u : Usual) → found ≡ Some u → IsUsual (definition_of l.atom) (map (λ list. list.items) l.ports) l.number u)
