use Rattle.std.proofs.Common.{◌≡◌, ◌<◌, ℕ, true, false}
use Rattle.std.specs.Prelude.{Some, slice_get, slice_index}
use Rattle.petri_atom.specs.Expression.{is_true, value_of}
use Rattle.priority_filter.specs.Members.{has_bit}
use Rattle.plant_model.specs.BoundExpressions.{clause_of}
use Rattle.plant_model.specs.Values.{value_there}
use Rattle.plant_model.specs.declared.bound_expressions.Clause.{Clause}
use Rattle.plant_model.proofs.connector_judge.without_forbidden.Given as goal

-- what no clause so far forbids is as it was, what one of them forbids is out, and nothing comes in
abbrev pub invariant-loop-number : goal.invariant-loop-number
invariant-loop-number l =
    ((i : ℕ) → i < 64 → ((k : ℕ) (clause : Clause) → slice_get l.clauses k ≡ Some clause → has_bit (slice_index l.under k) i ≡ true → is_true (value_of (value_there l.states) (clause_of clause).value) ≡ true) → has_bit l.left i ≡ has_bit l.word i) ×
    ((i k : ℕ) (clause : Clause) → i < 64 → k < l.number → slice_get l.clauses k ≡ Some clause → has_bit (slice_index l.under k) i ≡ true → is_true (value_of (value_there l.states) (clause_of clause).value) ≡ false → has_bit l.left i ≡ false) ×
    ((i : ℕ) → i < 64 → has_bit l.word i ≡ false → has_bit l.left i ≡ false)
