use Rattle.std.proofs.Common.{◌≡◌, ◌<◌, ℕ, true, false}
use Rattle.std.specs.FinSet.{contains}
use Rattle.std.specs.Prelude.{Some, slice_get}
use Rattle.petri_atom.specs.Expression.{is_true, value_of}
use Rattle.plant_model.specs.BoundExpressions.{clause_of}
use Rattle.plant_model.specs.Values.{value_there}
use Rattle.plant_model.specs.ConnectorRows.{is_in_row}
use Rattle.plant_model.specs.declared.bound_expressions.Clause.{Clause}
use Rattle.plant_model.proofs.connector_judge.take_forbidden.Given as goal

-- what no clause so far forbids is as it was, and what one of them forbids is out
abbrev pub invariant-loop-number : goal.invariant-loop-number
invariant-loop-number l =
    ((n : ℕ) → ((k : ℕ) (clause : Clause) → slice_get l.clauses k ≡ Some clause → is_in_row l.under n k ≡ true → is_true (value_of (value_there l.states) (clause_of clause).value) ≡ true) → contains l.possible n ≡ contains l.fn.possible n) ×
    ((n k : ℕ) (clause : Clause) → k < l.number → slice_get l.clauses k ≡ Some clause → is_in_row l.under n k ≡ true → is_true (value_of (value_there l.states) (clause_of clause).value) ≡ false → contains l.possible n ≡ false)
