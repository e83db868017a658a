-- What a move does to the plant, and what is told of it.
use Rattle.std.specs.Prelude.{◌≡◌, ◌≢◌, ℕ, Bool, true, false, List, [], ◌++◌, Contains, codes, decimal}
use Rattle.plant_model.specs.Choice.{ChoiceDefinition}
use Rattle.plant_model.specs.Firing.{firing_by}
use Rattle.plant_model.specs.Plant.{PlantDefinition, wire_name}
use Rattle.plant_core.specs.View.{View, sure_in, with_all_acked, with_fired}

-- A move of a connector: if it has a choice now, one of its choices was fired without values, and all that was fired is acknowledged. If it has none, nothing changes.
abbrev pub HasMoved : PlantDefinition → ℕ → View → Bool → View → Type 0
HasMoved plant connector v true w =
    (c : ChoiceDefinition) × (c.connector ≡ connector) × Contains (sure_in plant v) c × (w ≡ with_all_acked (with_fired plant (firing_by c []) v))
HasMoved plant connector v false w = ((c : ChoiceDefinition) → Contains (sure_in plant v) c → c.connector ≢ connector) × (w ≡ v)

-- what the device of a connector is told: the number of the move, and the connector's name
abbrev pub order_text : PlantDefinition → ℕ → ℕ → List ℕ
order_text plant connector number = decimal number ++ codes " " ++ wire_name plant connector ++ codes "\n"

-- what is told of a move, if there was one
abbrev pub told_text : PlantDefinition → ℕ → Bool → ℕ → List ℕ
told_text plant connector true number = order_text plant connector number
told_text plant connector false number = []
