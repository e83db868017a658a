-- What is found of a state once, for all interactions.
use Rattle.std.specs.Prelude.{◌≡◌, ℕ, ◌<◌, false, length, map, slice_index_or}
use Rattle.std.specs.FinSet.{contains}
use Rattle.priority_filter.specs.Active.{active, may_be_marked}
use Rattle.priority_filter.specs.Decided.{is_below}
use Rattle.priority_filter.specs.Table.{row_at}
use Rattle.plant_model.specs.Choice.{active_in, is_possible_at, named, plant_interactions}
use Rattle.plant_model.specs.Plant.{PlantDefinition}
use Rattle.blocked_text.specs.declared.overruling.Rivals.{Rivals}

-- the possible interactions are told as such, what is seen makes the rules count that count in the state, and each row that is there has the interactions above its own
pub record AreRivals (plant : PlantDefinition) (rivals : Rivals) : Type 0 where
  pub possible : (m : ℕ) → slice_index_or rivals.possible m false ≡ is_possible_at plant.atoms plant.wires rivals.states.now (plant_interactions plant) m
  pub counts : active (may_be_marked rivals.seen) plant.rules ≡ active_in plant rivals.states.now
  pub above : (n m : ℕ) → n < length rivals.above.items → contains (row_at rivals.above.items n) m ≡ is_below (active_in plant rivals.states.now) (map named (plant_interactions plant)) n m
