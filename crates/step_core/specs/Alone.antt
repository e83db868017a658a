-- Connectors that no other one has to do with by the rules without a condition.
use Rattle.std.specs.Prelude.{◌≡◌, ◌≢◌, ℕ, true, false, List}
use Rattle.plant_model.specs.Choice.{Interaction}
use Rattle.plant_model.specs.ConnectorRows.{is_of_connector}
use Rattle.plant_model.specs.Plant.{PlantDefinition}
use Rattle.step_core.specs.Standing.{is_always_below}

-- no interaction of the connector is below or above one of another connector
abbrev pub IsAlone : PlantDefinition → List Interaction → ℕ → Type 0
IsAlone plant interactions k =
    (e n m : ℕ) → e ≢ k → is_of_connector interactions k n ≡ true → is_of_connector interactions e m ≡ true
    → (is_always_below plant interactions n m ≡ false) × (is_always_below plant interactions m n ≡ false)
