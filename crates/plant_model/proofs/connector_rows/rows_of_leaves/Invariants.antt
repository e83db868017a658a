use Rattle.std.proofs.Common.{◌≡◌, ◌<◌, ◌&&◌, ◌^◌, ℕ, map, length}
use Rattle.plant_model.specs.ConnectorRows.{has_all_at, is_from, is_in_row}
use Rattle.plant_model.specs.Interaction.{interaction_of}
use Rattle.plant_model.proofs.connector_rows.rows_of_leaves.Given as goal

abbrev pub invariant-loop-leaf : goal.invariant-loop-leaf
invariant-loop-leaf l =
    (length l.rows.items ≡ l.leaf) ×
    ((j n : ℕ) → j < l.leaf → is_in_row l.rows.items n j ≡ (is_from l.first l.end n && has_all_at (map interaction_of l.interactions) (2 ^ j) n))
