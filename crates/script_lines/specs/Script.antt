-- The events that a script asks for.
use Rattle.std.specs.Prelude.{◌≡◌, ℕ, Bool, true, false, if◌then◌else◌, nat_lt, List, [], ◌∷◌, length, flat_map, codes, Result, Ok, Err, IsOk}
use Rattle.std.specs.List.{position_from}
use Rattle.std.specs.Option.{option_map_or}
use Rattle.petri_atom.specs.Name.{is_same_text}
use Rattle.plant_model.specs.Choice.{ChoiceDefinition}
use Rattle.plant_model.specs.Plant.{PlantDefinition}
use Rattle.plant_model.specs.declared.choice.Choice.{Choice}
use Rattle.run_text.specs.declared.pick.Misread.{Misread}
use Rattle.run_text.specs.declared.pick.Misread.TheVariants as reads
use Rattle.run_text.specs.declared.pick.Misread.TheVariants.{TooLong}
use Rattle.recorded_picks.specs.Choices.{choice_in}
use Rattle.plant_words.specs.Lines.{is_legal_line, lines_of}
use Rattle.plant_words.specs.Numbers.{is_numeric, pick_in}
use Rattle.plant_words.specs.Words.{begins_with, words_of}
use Rattle.text_io.specs.Numbered.{numbered}
use Rattle.text_io.specs.declared.reading.TheConstants.{MAX_TEXT}
use Rattle.plant_core.specs.declared.events.Event.{Event}
use Rattle.plant_core.specs.declared.events.Event.TheVariants.{Fire, FireChoice, Flush, Ask, Put, Save, Trim, Begin, Back}
use Rattle.plant_model.specs.Lookup.{atom_named}
use Rattle.script_lines.specs.declared.fault.ScriptFault.{ScriptFault}
use Rattle.script_lines.specs.declared.fault.ScriptFault.TheVariants.{Line, Memory}
use Rattle.script_lines.specs.declared.line.ScriptLine.{ScriptLine}
use Rattle.script_lines.specs.declared.line.ScriptLine.TheVariants.{Nothing, Asks, Mistaken}
use Rattle.script_lines.specs.declared.mistake.Mistake.{Mistake}
use Rattle.script_lines.specs.declared.mistake.Wrong.{Wrong}
use Rattle.script_lines.specs.declared.mistake.Wrong.TheVariants.{Byte, Comment, NoEvent, NoChoice, NoNumber, BadNumber, UnknownConnector, UnknownMove, NoInteraction, NoName, UnknownAtom, LeftOver}

-- this is wrong with the word at the place
abbrev pub wrong_at : {X : Type 0} → ℕ → Wrong → Result X Mistake
wrong_at word wrong = Err (record { word = word; wrong = wrong })

-- the event, which so many words ask for, if none stands after them
abbrev pub alone : {X : Type 0} → ℕ → X → List (List ℕ) → Result X Mistake
alone count event [] = Ok event
alone count event (word ∷ more) = wrong_at count LeftOver

-- the pick that a word is, if no word stands after it
abbrev pub pick_in_line : List ℕ → List (List ℕ) → Result ℕ Mistake
pick_in_line word more = option_map_or (λ pick. alone 2 pick more) (pick_in word) (wrong_at 1 BadNumber)

-- the pick that is the only one of the words
abbrev pub only_pick : List (List ℕ) → Result ℕ Mistake
only_pick [] = wrong_at 1 NoNumber
only_pick (word ∷ more) = pick_in_line word more

-- the atom of the plant whose name is the only one of the words
abbrev pub only_atom : PlantDefinition → List (List ℕ) → Result ℕ Mistake
only_atom plant [] = wrong_at 1 NoName
only_atom plant (word ∷ more) = option_map_or (λ atom. alone 2 atom more) (atom_named plant word) (wrong_at 1 UnknownAtom)

-- what is wrong where words name no choice
abbrev pub misread_at : Misread → Mistake
misread_at TooLong = record { word = 1; wrong = NoInteraction }
misread_at (reads.UnknownConnector word) = record { word = 1; wrong = UnknownConnector }
misread_at (reads.UnknownMove word) = record { word = 2; wrong = UnknownMove }
misread_at reads.NoInteraction = record { word = 1; wrong = NoInteraction }

-- a choice, as it is kept
abbrev pub kept_as : ChoiceDefinition → Choice
kept_as c = record { connector = c.connector; mask = c.mask; moves = c.moves }

-- the event that fires a choice that was read, without values
abbrev pub fire_of : Result ChoiceDefinition Misread → Result Event Mistake
fire_of (Ok c) = Ok (FireChoice (kept_as c) [])
fire_of (Err misread) = Err (misread_at misread)

-- the event of what was read
abbrev pub asked_as : {X : Type 0} → (X → Event) → Result X Mistake → Result Event Mistake
asked_as event (Ok x) = Ok (event x)
asked_as event (Err mistake) = Err mistake

-- after `fire` stands one word, which is a pick, or a choice as a fired line names it
abbrev pub fire_in : PlantDefinition → List (List ℕ) → Result Event Mistake
fire_in plant [] = wrong_at 1 NoChoice
fire_in plant (first ∷ words) =
    if is_numeric first then asked_as (λ pick. Fire pick []) (pick_in_line first words) else fire_of (choice_in plant first words)

-- the event that a first word and the words after it ask for
abbrev pub event_in : PlantDefinition → List ℕ → List (List ℕ) → Result Event Mistake
event_in plant first words =
    if is_same_text first (codes "fire") then fire_in plant words
    else if is_same_text first (codes "flush") then alone 1 Flush words
    else if is_same_text first (codes "ask") then asked_as Ask (only_atom plant words)
    else if is_same_text first (codes "put") then asked_as Put (only_atom plant words)
    else if is_same_text first (codes "save") then alone 1 Save words
    else if is_same_text first (codes "trim") then alone 1 Trim words
    else if is_same_text first (codes "begin") then asked_as (λ pick. Begin pick []) (only_pick words)
    else if is_same_text first (codes "back") then asked_as Back (only_atom plant words)
    else if begins_with 35 first then wrong_at 0 Comment
    else wrong_at 0 NoEvent

-- a line whose words ask for this event, or have this mistake
abbrev pub asked_for : Result Event Mistake → ScriptLine
asked_for (Ok event) = Asks event
asked_for (Err mistake) = Mistaken mistake

-- what the words of a line say: nothing if there is none, and else they ask for an event
abbrev pub said_in : PlantDefinition → List (List ℕ) → ScriptLine
said_in plant [] = Nothing
said_in plant (first ∷ words) = asked_for (event_in plant first words)

-- what a line says; one with a byte that no plant text may hold is mistaken
abbrev pub line_in : PlantDefinition → List ℕ → ScriptLine
line_in plant line = if is_legal_line line then said_in plant (words_of line) else Mistaken (record { word = 0; wrong = Byte })

-- the line is refused
abbrev pub is_mistaken : ScriptLine → Bool
is_mistaken Nothing = false
is_mistaken (Asks event) = false
is_mistaken (Mistaken mistake) = true

abbrev pub is_refused : PlantDefinition → List ℕ → Bool
is_refused plant line = is_mistaken (line_in plant line)

-- the events of a line: the one that it asks for, if any
abbrev pub asked_by_line : ScriptLine → List Event
asked_by_line Nothing = []
asked_by_line (Asks event) = event ∷ []
asked_by_line (Mistaken mistake) = []

abbrev pub events_of : PlantDefinition → List ℕ → List Event
events_of plant line = asked_by_line (line_in plant line)

-- What a script means for a plant: the events of its lines, one after another, or the number of the first line that is refused, counted
-- from 1. A script that is too long is refused with number 0, whatever its lines are.
abbrev pub script_meaning : PlantDefinition → List ℕ → Result (List Event) ℕ
script_meaning plant text =
    if nat_lt MAX_TEXT (length text) then Err 0
    else option_map_or Err (position_from (is_refused plant) 1 (lines_of text)) (Ok (flat_map (events_of plant) (lines_of text)))

-- a fault of a script is its refused line, or that memory ran out, if no line is refused
abbrev pub IsFaultOf : PlantDefinition → List ℕ → ScriptFault → Type 0
IsFaultOf plant text (Line number) = script_meaning plant text ≡ Err number
IsFaultOf plant text Memory = IsOk (script_meaning plant text)

-- there is a word
abbrev pub has_word : List (List ℕ) → Bool
has_word [] = false
has_word (word ∷ words) = true

-- a line has words
abbrev pub has_words : List ℕ → Bool
has_words line = has_word (words_of line)

-- the number of a line, if it asks for an event
abbrev pub number_if_asks : ℕ → List ℕ → List ℕ
number_if_asks number line = if has_words line then number ∷ [] else []

-- the numbers of the lines of a script that ask for events, counted from 1
abbrev pub event_lines : List ℕ → List ℕ
event_lines text = numbered number_if_asks 1 (lines_of text)
