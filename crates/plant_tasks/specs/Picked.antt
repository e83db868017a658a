-- The picks by which a plant is run.
use Rattle.std.specs.Prelude.{ℕ, List, [], option_map, Option, None, Some}
use Rattle.std.specs.Option.{option_map_or}
use Rattle.plant_model.specs.Plant.{PlantDefinition}
use Rattle.run_text.specs.Picks.{PickDefinition, counted_picks, given_picks, random_picks, weighted_picks}
use Rattle.run_text.specs.Runs.{refusal_of}
use Rattle.run_text.specs.declared.fault.Refusal.{Refusal}
use Rattle.run_text.specs.declared.pick.Numbers.{Numbers as RunNumbers}
use Rattle.run_text.specs.declared.pick.Numbers.TheVariants as run
use Rattle.recorded_picks.specs.Files.{picks_in}
use Rattle.recorded_picks.specs.Followed.{followed}
use Rattle.command_line.specs.declared.request.Numbers.{Numbers}
use Rattle.command_line.specs.declared.request.Numbers.TheVariants.{Modulo, Strict}
use Rattle.command_line.specs.declared.request.Picking.{Picking}
use Rattle.command_line.specs.declared.request.Picking.TheVariants.{Given, Recorded, Random}

-- how numbers are taken
abbrev pub numbers_of : Numbers → RunNumbers
numbers_of Modulo = run.Modulo
numbers_of Strict = run.Strict

-- random picks by these numbers, and by the weights of connectors if there are some
abbrev pub random_said : Option (List ℕ) → List ℕ → List PickDefinition
random_said None numbers = counted_picks numbers
random_said (Some weights) numbers = weighted_picks weights numbers

-- the picks that the words of the command line ask for, those of a text as far as its bytes are known: those that are given, those that the
-- lines of the text say and random ones after them, or random ones; the random ones by the weights of connectors if there are some
abbrev pub picks_weighted : Option (List ℕ) → Picking → PlantDefinition → Option (List ℕ) → Option (List PickDefinition)
picks_weighted weights (Given picks numbers) plant input = Some (given_picks (numbers_of numbers) picks.items)
picks_weighted weights (Recorded path numbers count seed) plant input =
    followed (random_said weights (random_picks seed count)) (option_map (picks_in (numbers_of numbers) plant) input)
picks_weighted weights (Random count seed) plant input = Some (random_said weights (random_picks seed count))

-- the same without weights
abbrev pub picks_said : Picking → PlantDefinition → Option (List ℕ) → Option (List PickDefinition)
picks_said = picks_weighted None

-- the first of these picks that is refused, if one is, as far as they are known
abbrev pub refusal_said : Picking → PlantDefinition → Option (List ℕ) → Option (Option Refusal)
refusal_said picking plant input = option_map (refusal_of plant) (picks_said picking plant input)

-- what is printed of the state after picks: nothing where one of them is refused
abbrev pub after_picks : PlantDefinition → (List PickDefinition → List ℕ) → List PickDefinition → List ℕ
after_picks plant text picks = option_map_or (λ refusal. []) (refusal_of plant picks) (text picks)
