-- How connectors are weighted, as the words of the command line say it.
use Rattle.std.specs.Prelude.{ℕ, min, Bool, not, is_some, List, [], ◌∷◌, replicate, slice_set, position, option_map, Option, None, Some}
use Rattle.std.specs.Option.{option_map_or}
use Rattle.plant_model.specs.Lookup.{connector_named}
use Rattle.plant_model.specs.Plant.{PlantDefinition}
use Rattle.plant_model.specs.declared.limits.TheConstants.{MAX_WIRES}
use Rattle.run_text.specs.declared.weights.TheConstants.{MOST_WEIGHT, USUAL_WEIGHT}
use Rattle.command_line.specs.declared.request.WeightWords.{WeightWords}
use Rattle.plant_tasks.specs.declared.ending.PlantEnding.{PlantEnding}
use Rattle.plant_tasks.specs.declared.ending.PlantEnding.TheVariants.{NoConnector}

-- the weights with that of the connector that the words name, if the plant has it
abbrev pub with_weight : PlantDefinition → List ℕ → WeightWords → List ℕ
with_weight plant weights one = option_map_or (λ connector. slice_set weights connector (min one.weight MOST_WEIGHT)) (connector_named plant one.name.now) weights

-- the weights with those of the words, one after another: the last that names a connector counts
abbrev pub with_weights : PlantDefinition → List ℕ → List WeightWords → List ℕ
with_weights plant weights [] = weights
with_weights plant weights (one ∷ more) = with_weights plant (with_weight plant weights one) more

-- the weights of connectors that words ask for, if there are some: each connector that they don't name has the usual one
abbrev pub weights_said : PlantDefinition → List WeightWords → Option (List ℕ)
weights_said plant [] = None
weights_said plant words = Some (with_weights plant (replicate MAX_WIRES USUAL_WEIGHT) words)

-- the words name no connector of the plant
abbrev pub is_unnamed : PlantDefinition → WeightWords → Bool
is_unnamed plant one = not (is_some (connector_named plant one.name.now))

-- how a task ends at the first of the words that names no connector, if one does
abbrev pub first_unnamed : PlantDefinition → List WeightWords → Option PlantEnding
first_unnamed plant words = option_map NoConnector (position (is_unnamed plant) words)
