use Rattle.std.proofs.Common.{◌≡◌, ◌<◌, ◌&&◌, ℕ, map, length}
use Rattle.std.specs.Prelude.{Some, slice_get}
use Rattle.plant_model.specs.ConnectorRows.{has_all_at, is_from, is_in_row}
use Rattle.plant_model.specs.Interaction.{interaction_of}
use Rattle.plant_model.specs.declared.bound_expressions.Clause.{Clause}
use Rattle.plant_model.proofs.connector_rows.rows_of_clauses.Given as goal

abbrev pub invariant-loop-clause : goal.invariant-loop-clause
invariant-loop-clause l =
    (length l.rows.items ≡ l.clause-index) ×
    ((k n : ℕ) (clause : Clause) → k < l.clause-index → slice_get l.clauses k ≡ Some clause → is_in_row l.rows.items n k ≡ (is_from l.first l.end n && has_all_at (map interaction_of l.interactions) clause.leaves n))
