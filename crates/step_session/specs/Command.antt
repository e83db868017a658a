-- What a line asks for.
use Rattle.std.specs.Prelude.{ℕ, Bool, true, false, nat_lt, if◌then◌else◌, List, [], ◌∷◌, length, codes}
use Rattle.std.specs.Option.{option_map_or}
use Rattle.petri_atom.specs.Name.{is_same_text}
use Rattle.plant_words.specs.Numbers.{is_numeric, pick_in}
use Rattle.plant_words.specs.Words.{words_of}
use Rattle.step_session.specs.declared.command.TheConstants.{MOST_UNTIL}
use Rattle.step_session.specs.declared.lines.TheConstants.{MAX_LINE}

-- why a line asks for nothing: it is too long, its first word is no command, a word is left over or is no number, or a number, a file or a connector, to be fired or waited for, is missing
pub data MistakeDefinition : Type 0 where
  too_long : MistakeDefinition
  no_command : List ℕ → MistakeDefinition
  left_over : List ℕ → MistakeDefinition
  no_number : List ℕ → MistakeDefinition
  no_count : MistakeDefinition
  no_file : MistakeDefinition
  no_fired : MistakeDefinition
  no_awaited : MistakeDefinition

-- what can be asked for: where the plant stands; to fire a choice, by its number or its connector, to take a firing back, to fire random choices, so many or until a connector can be fired, but so many at most; why connectors can't be fired; to save; the list of the commands; to end. A mistaken line asks for nothing
pub data CommandDefinition : Type 0 where
  shows : CommandDefinition
  fires : ℕ → CommandDefinition
  fires_named : List ℕ → CommandDefinition
  takes_back : CommandDefinition
  fires_random : ℕ → CommandDefinition
  fires_until : List ℕ → ℕ → CommandDefinition
  tells : CommandDefinition
  tells_of : List ℕ → CommandDefinition
  saves_to : List ℕ → CommandDefinition
  helps : CommandDefinition
  quits : CommandDefinition
  mistaken : MistakeDefinition → CommandDefinition

-- the session ends
abbrev pub ends : CommandDefinition → Bool
ends shows = false
ends (fires number) = false
ends (fires_named name) = false
ends takes_back = false
ends (fires_random count) = false
ends (fires_until name most) = false
ends tells = false
ends (tells_of name) = false
ends (saves_to path) = false
ends helps = false
ends quits = true
ends (mistaken mistake) = false

-- a command after which no word stands
abbrev pub alone : CommandDefinition → List (List ℕ) → CommandDefinition
alone command [] = command
alone command (word ∷ words) = mistaken (left_over word)

-- a word that is a number within 64 bits: the choice with this number
abbrev pub number_in : List ℕ → CommandDefinition
number_in word = option_map_or fires (pick_in word) (mistaken (no_number word))

-- the same of how many random choices
abbrev pub count_in : List ℕ → CommandDefinition
count_in word = option_map_or fires_random (pick_in word) (mistaken (no_number word))

-- after `random` stands how many
abbrev pub random_in : List (List ℕ) → CommandDefinition
random_in [] = mistaken no_count
random_in (word ∷ words) = alone (count_in word) words

-- after `fire` stands the name of a connector
abbrev pub fire_in : List (List ℕ) → CommandDefinition
fire_in [] = mistaken no_fired
fire_in (name ∷ words) = alone (fires_named name) words

-- a word that is a number within 64 bits: until the connector with a name can be fired, but so many at most
abbrev pub most_number : List ℕ → List ℕ → CommandDefinition
most_number name word = option_map_or (fires_until name) (pick_in word) (mistaken (no_number word))

-- after the name stands how many at most, or nothing
abbrev pub most_in : List ℕ → List (List ℕ) → CommandDefinition
most_in name [] = fires_until name MOST_UNTIL
most_in name (word ∷ words) = alone (most_number name word) words

-- after `until` stands the name of a connector
abbrev pub until_in : List (List ℕ) → CommandDefinition
until_in [] = mistaken no_awaited
until_in (name ∷ words) = most_in name words

-- after `why` stands the name of a connector, or nothing
abbrev pub why_in : List (List ℕ) → CommandDefinition
why_in [] = tells
why_in (name ∷ words) = alone (tells_of name) words

-- after `save` stands a file
abbrev pub save_in : List (List ℕ) → CommandDefinition
save_in [] = mistaken no_file
save_in (path ∷ words) = alone (saves_to path) words

-- what a first word and the words after it ask for
abbrev pub command_after : List ℕ → List (List ℕ) → CommandDefinition
command_after first words =
    if is_numeric first then alone (number_in first) words
    else if is_same_text first (codes "fire") then fire_in words
    else if is_same_text first (codes "back") then alone takes_back words
    else if is_same_text first (codes "random") then random_in words
    else if is_same_text first (codes "until") then until_in words
    else if is_same_text first (codes "why") then why_in words
    else if is_same_text first (codes "state") then alone shows words
    else if is_same_text first (codes "save") then save_in words
    else if is_same_text first (codes "help") then alone helps words
    else if is_same_text first (codes "quit") then alone quits words
    else mistaken (no_command first)

-- a line without words asks where the plant stands
abbrev pub said_in : List (List ℕ) → CommandDefinition
said_in [] = shows
said_in (first ∷ words) = command_after first words

-- what a line asks for
abbrev pub command_in : List ℕ → CommandDefinition
command_in line = if nat_lt MAX_LINE (length line) then mistaken too_long else said_in (words_of line)
