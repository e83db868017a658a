-- What is said of a line that asks for no event.
use Rattle.std.specs.Prelude.{ℕ, suc, zero, ◌+◌, ◌-◌, ◌==◌, Bool, ◌||◌, if◌then◌else◌, nat_le, List, [], ◌∷◌, ◌++◌, codes, decimal, drop, length, slice_get, take, is_none}
use Rattle.std.specs.List.{list_any, position_or_len}
use Rattle.std.specs.Option.{option_map_or}
use Rattle.petri_atom.specs.Name.{is_same_text}
use Rattle.plant_words.specs.Numbers.{is_numeric}
use Rattle.plant_words.specs.Words.{begins_with, is_filled, words_of}
use Rattle.plant_model.specs.Plant.{PlantDefinition}
use Rattle.recorded_picks.specs.Moves.{move_in}
use Rattle.recorded_picks.specs.Names.{atom_names, connector_names}
use Rattle.script_lines.specs.declared.mistake.Mistake.{Mistake}
use Rattle.script_lines.specs.declared.mistake.Wrong.{Wrong}
use Rattle.script_lines.specs.declared.mistake.Wrong.TheVariants.{Byte, Comment, NoEvent, NoChoice, NoNumber, BadNumber, UnknownConnector, UnknownMove, NoInteraction, NoName, UnknownAtom, LeftOver}
use Rattle.script_lines.specs.declared.mistake_text.TheConstants.{EVENTS, MAX_LISTED, MAX_WORD_SHOWN}

-- a word, of a long one its first bytes
abbrev pub fitting : List ℕ → List ℕ
fitting word = if nat_le (length word) MAX_WORD_SHOWN then word else take (MAX_WORD_SHOWN - 3) word ++ codes "..."

-- a word in quotes, and what is said of it
abbrev pub quoted : List ℕ → List ℕ → List ℕ
quoted word said = codes "'" ++ fitting word ++ codes "'" ++ said

-- so many names after others, and then that there are more
abbrev pub more_names : ℕ → List (List ℕ) → List ℕ
more_names room [] = []
more_names zero (name ∷ names) = codes ", .."
more_names (suc room) (name ∷ names) = codes ", " ++ name ++ more_names room names

-- names in a row, the first ones if there are many
abbrev pub listed_names : List (List ℕ) → List ℕ
listed_names [] = codes "none"
listed_names (name ∷ names) = name ++ more_names (MAX_LISTED - 1) names

-- none of these is the name that a word is, and which they are
abbrev pub unknown_text : List ℕ → List ℕ → List (List ℕ) → List ℕ
unknown_text none word names = none ++ quoted word (codes "; it has: ") ++ listed_names names

-- the word of a line with a place, from 0; empty if it has none
abbrev pub word_in : List ℕ → ℕ → List ℕ
word_in line place = option_map_or (λ word. word) (slice_get (words_of line) place) []

-- the place of the first word behind a connector's name that is no move of the plant
abbrev pub wrong_move_in : PlantDefinition → List ℕ → ℕ
wrong_move_in plant line = 2 + position_or_len (λ word. is_none (move_in plant word)) (drop 2 (words_of line))

-- the place of the word at fault: of a word that is no move the first of these
abbrev pub place_of : PlantDefinition → List ℕ → ℕ → Wrong → ℕ
place_of plant line word UnknownMove = wrong_move_in plant line
place_of plant line word other = word

abbrev pub place_at_fault : PlantDefinition → List ℕ → Mistake → ℕ
place_at_fault plant line mistake = place_of plant line mistake.word mistake.wrong

-- what is wrong with a word, and what could stand there
abbrev pub wrong_text : PlantDefinition → List ℕ → Wrong → List ℕ
wrong_text plant word Byte = codes "the line has a byte that is neither printed ASCII nor a tab"
wrong_text plant word Comment = codes "a script has no comments"
wrong_text plant word NoEvent = quoted word (codes " is no event: fire, flush, ask, put, save, trim, begin or back")
wrong_text plant word NoChoice = codes "the number of a choice is missing, or a choice as a fired line names it: CONNECTOR ATOM.PORT/TRANSITION .."
wrong_text plant word NoNumber = codes "the number of a choice is missing"
wrong_text plant word BadNumber = quoted word (codes " is no number from 0 to 18446744073709551615")
wrong_text plant word UnknownConnector = unknown_text (codes "the plant has no connector ") word (connector_names plant)
wrong_text plant word UnknownMove = quoted word (codes " is no ATOM.PORT/TRANSITION of the plant")
wrong_text plant word NoInteraction = quoted word (codes " has no interaction of these moves")
wrong_text plant word NoName = codes "the name of an atom is missing; the plant has: " ++ listed_names (atom_names plant)
wrong_text plant word UnknownAtom = unknown_text (codes "the plant has no atom ") word (atom_names plant)
wrong_text plant word LeftOver = quoted word (codes " is left over")

-- the word has a sign that parts events, or words, in other languages: `;` (59) or `,` (44)
abbrev pub is_parted : List ℕ → Bool
is_parted word = list_any (λ byte. byte == 59 || byte == 44) word

-- an event begins with the word
abbrev pub is_event : List ℕ → Bool
is_event word = list_any (λ event. is_same_text event.now word) EVENTS

-- what is said of a word with a sign that parts events
abbrev pub parted_text : List ℕ
parted_text = codes " has a ';' or a ',': each event stands on a line of its own, and spaces alone stand between words"

-- what is said of a word where this is wrong with it, whatever the plant has; empty if that is nothing
abbrev pub said_of : List ℕ → Wrong → List ℕ
said_of word NoEvent =
    if is_parted word then parted_text
    else if is_numeric word then codes " is no event: write 'fire' before the number of a choice" else codes ""
said_of word BadNumber = if is_parted word then parted_text else codes ""
said_of word UnknownConnector = if is_parted word then parted_text else codes ""
said_of word UnknownMove = if is_parted word then parted_text else codes ""
said_of word UnknownAtom = if is_parted word then parted_text else codes ""
said_of word LeftOver =
    if is_parted word then parted_text
    else if begins_with 35 word then codes " is left over: a script has no comments"
    else if is_event word then codes " is left over: each event stands on a line of its own" else codes ""
said_of word wrong = codes ""

-- this of a word, if it is something, or else what could stand there
abbrev pub said_text : PlantDefinition → List ℕ → Wrong → List ℕ → List ℕ
said_text plant word wrong said = if is_filled said then quoted word said else wrong_text plant word wrong

-- what is wrong with a word: what can be said of it alone, or else what could stand there
abbrev pub told_text : PlantDefinition → List ℕ → Wrong → List ℕ
told_text plant word wrong = said_text plant word wrong (said_of word wrong)

-- what is wrong with a line that has this mistake
abbrev pub mistake_text : PlantDefinition → List ℕ → Mistake → List ℕ
mistake_text plant line mistake = told_text plant (word_in line (place_at_fault plant line mistake)) mistake.wrong

-- a number behind a colon
abbrev pub colon_text : ℕ → List ℕ
colon_text number = codes ":" ++ decimal number

-- a place in a text
abbrev pub place_text : List ℕ → ℕ → ℕ → List ℕ
place_text path number column = codes "  " ++ path ++ colon_text number ++ colon_text column ++ codes ": "

-- where a mistake stands, and what is wrong
abbrev pub placed_mistake : PlantDefinition → List ℕ → ℕ → ℕ → List ℕ → Mistake → List ℕ
placed_mistake plant path number column line mistake = place_text path number column ++ mistake_text plant line mistake ++ codes "\n"
