use Rattle.std.proofs.Common.{◌≡◌, ◌<◌, ℕ, true, map}
use Rattle.plant_model.specs.ConnectorRows.{is_before}
use Rattle.plant_model.specs.Interaction.{interaction_of}
use Rattle.plant_model.proofs.connector_rows.count_before.Given as goal

abbrev pub invariant-loop-number : goal.invariant-loop-number
invariant-loop-number l = (n : ℕ) → n < l.number → is_before (map interaction_of l.interactions) l.connector n ≡ true
