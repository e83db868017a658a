-- What the words of the command line say of a run of a plant: what it is watched for, and how connectors are weighted.
use Rattle.std.specs.Prelude.{◌≡◌, List, map, Option, None, Ok}
use Rattle.std.specs.Option.{option_or}
use Rattle.plant_model.specs.Plant.{PlantDefinition}
use Rattle.run_watches.specs.Watches.{watch_of}
use Rattle.command_line.specs.declared.request.WatchWords.{WatchWords}
use Rattle.command_line.specs.declared.request.WeightWords.{WeightWords}
use Rattle.plant_tasks.specs.Watches.{first_bad, watches_in}
use Rattle.plant_tasks.specs.Weights.{first_unnamed, weights_said}
use Rattle.plant_tasks.specs.declared.ending.PlantEnding.{PlantEnding}
use Rattle.plant_tasks.specs.declared.words.RunWords.{RunWords}

-- how a task ends at the first watch that can't be read, or else at the first weight that names no connector, if one of these is there
abbrev pub first_misread : PlantDefinition → List WatchWords → List WeightWords → Option PlantEnding
first_misread plant watches weights = option_or (first_bad plant watches) (first_unnamed plant weights)

-- these words were read so of a plant, and all of them could be
pub record AreRead (plant : PlantDefinition) (watches : List WatchWords) (weights : List WeightWords) (words : RunWords) : Type 0 where
  pub read : map (λ watch. Ok (watch_of watch)) words.watches.items ≡ watches_in plant watches
  pub given : words.weights ≡ weights_said plant weights
  pub all : None ≡ first_misread plant watches weights
