-- The connectors of a plant by their names.
use Rattle.std.specs.Prelude.{ℕ, List, map}
use Rattle.plant_model.specs.Plant.{PlantDefinition}

-- the names of a plant's connectors, in written order
abbrev pub connector_names : PlantDefinition → List (List ℕ)
connector_names plant = map (λ w. w.name) plant.wires
