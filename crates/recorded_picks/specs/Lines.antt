-- What a line of a file of picks says.
use Rattle.std.specs.Prelude.{ℕ, Bool, false, if◌then◌else◌, nat_lt, List, [], ◌∷◌, length, take, Option, Some, None, Result, Ok, Err}
use Rattle.std.specs.Option.{option_map_or}
use Rattle.plant_words.specs.Numbers.{pick_in}
use Rattle.plant_words.specs.Words.{begins_with, words_of}
use Rattle.plant_model.specs.Choice.{ChoiceDefinition}
use Rattle.plant_model.specs.Plant.{PlantDefinition}
use Rattle.run_text.specs.Picks.{TakeDefinition, named, misread, number_as}
use Rattle.run_text.specs.declared.pick.Misread.{Misread}
use Rattle.run_text.specs.declared.pick.Misread.TheVariants.{TooLong}
use Rattle.run_text.specs.declared.pick.Numbers.{Numbers}
use Rattle.recorded_picks.specs.Choices.{choice_in}
use Rattle.recorded_picks.specs.declared.kept_line.TheConstants.{MAX_PICK_LINE}

-- what a choice takes that was read, or that it was not
abbrev pub take_of_choice : Result ChoiceDefinition Misread → TakeDefinition
take_of_choice (Ok c) = named c
take_of_choice (Err m) = misread m

-- the number that the first word is, if no other follows
abbrev pub lone_number : List ℕ → List (List ℕ) → Option ℕ
lone_number first [] = pick_in first
lone_number first (word ∷ words) = None

-- what a first word and those after it take: a number that stands alone, or else a fired line without its number
abbrev pub take_by : Numbers → PlantDefinition → List ℕ → List (List ℕ) → TakeDefinition
take_by numbers plant first words = option_map_or (number_as numbers) (lone_number first words) (take_of_choice (choice_in plant first words))

-- the same of words, if there are any
abbrev pub take_in : Numbers → PlantDefinition → List (List ℕ) → Option TakeDefinition
take_in numbers plant [] = None
take_in numbers plant (first ∷ words) = Some (take_by numbers plant first words)

-- the first word, if there is one, begins with `#` (35)
abbrev pub is_remark : List (List ℕ) → Bool
is_remark [] = false
is_remark (word ∷ words) = begins_with 35 word

-- What a line takes: nothing if it has no words, or is a comment, which may be of any length.
abbrev pub said_in : Numbers → PlantDefinition → List ℕ → Option TakeDefinition
said_in numbers plant line =
    if is_remark (words_of (take MAX_PICK_LINE line)) then None
    else if nat_lt MAX_PICK_LINE (length line) then Some (misread TooLong)
    else take_in numbers plant (words_of line)
