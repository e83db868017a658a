-- The picks of a file, which stand in it one on each line.
use Rattle.std.specs.Prelude.{ℕ, List, option_map}
use Rattle.std.specs.Option.{option_to_list}
use Rattle.plant_words.specs.Lines.{lines_of}
use Rattle.plant_model.specs.Plant.{PlantDefinition}
use Rattle.text_io.specs.Numbered.{numbered}
use Rattle.run_text.specs.Picks.{PickDefinition}
use Rattle.run_text.specs.declared.pick.Numbers.{Numbers}
use Rattle.recorded_picks.specs.Lines.{said_in}

-- the pick of the line with a number, if it is one
abbrev pub picks_of_line : Numbers → PlantDefinition → ℕ → List ℕ → List PickDefinition
picks_of_line numbers plant place line = option_to_list (option_map (λ take. record { place = place; take = take }) (said_in numbers plant line))

-- the picks of the lines of a text, of which the first has this number
abbrev pub picks_from : Numbers → PlantDefinition → ℕ → List ℕ → List PickDefinition
picks_from numbers plant place bytes = numbered (picks_of_line numbers plant) place (lines_of bytes)

-- the picks of a file: that of each line that is not passed over, in order
abbrev pub picks_in : Numbers → PlantDefinition → List ℕ → List PickDefinition
picks_in numbers plant bytes = picks_from numbers plant 1 bytes
