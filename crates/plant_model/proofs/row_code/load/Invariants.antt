use Rattle.std.proofs.Common.{◌≡◌, ◌<◌, ℕ, length}
use Rattle.std.specs.Prelude.{Some, slice_get}
use Rattle.petri_atom.specs.Local.{value_in}
use Rattle.plant_model.specs.Values.{value_there}
use Rattle.plant_model.specs.declared.bound_expressions.AtomVariable.{AtomVariable}
use Rattle.plant_model.proofs.row_code.load.Given as goal

-- the row begins with the values of the variables so far
abbrev pub invariant-loop-number : goal.invariant-loop-number
invariant-loop-number l =
    (length l.row ≡ 16) ×
    ((k : ℕ) (v : AtomVariable) → k < l.number → slice_get l.variables k ≡ Some v → value_in l.row k ≡ value_there l.states v)
