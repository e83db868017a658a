use Rattle.std.proofs.Common.{◌≡◌, ℕ, map, length, Vec, Global}
use Rattle.std.specs.Prelude.{Option, Some, slice_get}
use Rattle.petri_atom.specs.Atom.{definition_of}
use Rattle.petri_atom.specs.Definition.{AtomDefinition}
use Rattle.plant_model.specs.Usual.{IsUsual}
use Rattle.plant_model.specs.declared.usual.Usual.{Usual}
use Rattle.plant_model.proofs.usual.usual_of.Given as goal

abbrev pub invariant-loop-number : goal.invariant-loop-number
invariant-loop-number l =
    (length l.rows.items ≡ l.number) ×
    ((n : ℕ) (row : Vec (Option Usual) Global) → slice_get l.rows.items n ≡ Some row → (a : AtomDefinition) → slice_get (map definition_of l.atoms) n ≡ Some a →
    (length row.items ≡ length a.transitions) × ((t : ℕ) (u : Usual) → slice_get row.items t ≡ Some (Some u) → IsUsual a (map (λ list. list.items) l.ports) n u))
