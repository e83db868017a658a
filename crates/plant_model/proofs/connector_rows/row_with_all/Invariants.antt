use Rattle.std.proofs.Common.{◌≡◌, ◌&&◌, ℕ, map}
use Rattle.std.specs.FinSet.{contains}
use Rattle.plant_model.specs.ConnectorRows.{has_all_at, is_from}
use Rattle.plant_model.specs.Interaction.{interaction_of}
use Rattle.plant_model.proofs.connector_rows.row_with_all.Given as goal

abbrev pub invariant-loop-number : goal.invariant-loop-number
invariant-loop-number l =
    (n : ℕ) → contains l.row n ≡ (is_from l.first l.number n && has_all_at (map interaction_of l.interactions) l.leaves n)
