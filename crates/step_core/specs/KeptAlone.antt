-- What is possible of a connector, and kept of it, where it is judged by itself.
use Rattle.std.specs.Prelude.{◌≡◌, ℕ, true, false, List}
use Rattle.std.specs.Ordering.{nat_cmp}
use Rattle.std.specs.FinSet.{FinSet, contains}
use Rattle.petri_atom.specs.Local.{Local}
use Rattle.plant_model.specs.Choice.{Interaction, is_possible_at}
use Rattle.plant_model.specs.ConnectorRows.{is_of_connector}
use Rattle.plant_model.specs.Plant.{PlantDefinition}
use Rattle.step_core.specs.Standing.{is_kept_always}

-- of the connector, what is possible is right for a state, and those of it are kept that no possible one is above by the rules without a
-- condition; of all other connectors both are as they were
pub record IsKeptAlone (plant : PlantDefinition) (interactions : List Interaction) (states : List Local) (connector : ℕ) (was_possible possible was_kept kept : FinSet nat_cmp) : Type 0 where
  pub judged : (n : ℕ) → is_of_connector interactions connector n ≡ true → contains possible n ≡ is_possible_at plant.atoms plant.wires states interactions n
  pub others : (n : ℕ) → is_of_connector interactions connector n ≡ false → contains possible n ≡ contains was_possible n
  pub keeps : (n : ℕ) → is_of_connector interactions connector n ≡ true → contains kept n ≡ is_kept_always plant interactions (contains possible) n
  pub other_kept : (n : ℕ) → is_of_connector interactions connector n ≡ false → contains kept n ≡ contains was_kept n
