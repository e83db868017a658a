-- The answers to questions.
use Rattle.std.specs.Prelude.{ℕ, ◌+◌, ◌-◌, Bool, if◌then◌else◌, List, [], ◌++◌, codes, decimal, flat_map, length}
use Rattle.std.specs.List.{list_any, range_with_len}
use Rattle.blocked_text.specs.Blocked.{connector_text, why_text}
use Rattle.plant_core.specs.View.{View, fired_number, is_base_held_by, sure_in}
use Rattle.run_text.specs.Choices.{choices_text}
use Rattle.plant_model.specs.Plant.{PlantDefinition}
use Rattle.script_lines.specs.Answers.{front_line, front_of, standing_text}
use Rattle.script_lines.specs.Atoms.{atom_name}
use Rattle.script_lines.specs.Mistakes.{mistake_text, quoted, word_in}
use Rattle.script_lines.specs.declared.mistake.Mistake.{Mistake}
use Rattle.script_lines.specs.declared.mistake.Wrong.{Wrong}
use Rattle.script_lines.specs.declared.mistake.Wrong.TheVariants.{NoEvent, Comment}
use Rattle.plant_service.specs.declared.command.Command.{Command}
use Rattle.plant_service.specs.declared.command.Command.TheVariants.{Nothing, Asks, Choices, State, Why, WhyOf, Front, Room, Save, Quit, Mistaken, TooLong}
use Rattle.plant_service.specs.declared.line_length.TheConstants.{MAX_LINE}

-- ---- room

-- a word, and a number behind it
abbrev pub part_text : List ℕ → ℕ → List ℕ
part_text word number = word ++ decimal number

-- how many records are kept, those of the tail too
abbrev pub live_in : View → ℕ
live_in v = fired_number v + 1 - v.base

-- the name of an atom that keeps the first record where it is, behind a blank
abbrev pub holder_text : PlantDefinition → View → ℕ → List ℕ
holder_text plant v atom = if is_base_held_by atom v then codes " " ++ atom_name plant atom else []

-- of so many atoms the names of those, in order
abbrev pub holders_text : PlantDefinition → View → ℕ → List ℕ
holders_text plant v atoms = flat_map (holder_text plant v) (range_with_len 0 atoms)

-- of so many atoms one does
abbrev pub is_any_held : View → ℕ → Bool
is_any_held v atoms = list_any (λ atom. is_base_held_by atom v) (range_with_len 0 atoms)

-- these names, or that there are none
abbrev pub held_text : PlantDefinition → View → List ℕ
held_text plant v = holders_text plant v (length plant.atoms) ++ (if is_any_held v (length plant.atoms) then [] else codes " -")

-- How much room there is: for how many records in all, how many are kept, for how many there is room yet, how many of those that are kept are not
-- acknowledged, and which atoms keep the first where it is.
abbrev pub room_text : PlantDefinition → View → List ℕ
room_text plant v =
    part_text (codes "ring ") v.ring ++ part_text (codes " live ") (live_in v) ++ part_text (codes " free ") (v.ring - live_in v)
    ++ part_text (codes " tail ") (length v.tail) ++ codes " held" ++ held_text plant v ++ codes "\n"

-- ---- mistakes

-- the first word of a line is no command: that, and which commands there are
abbrev pub no_command : List ℕ → List ℕ
no_command line =
    quoted (word_in line 0) (codes " is no command: fire, flush, ask, put, trim, begin, back, choices, state, why, front, room, save or quit")

-- what is said of a mistake: a first word that is no command is told with the list of all commands, and any other mistake as in a script
abbrev pub wrong_in : PlantDefinition → List ℕ → Mistake → Wrong → List ℕ
wrong_in plant line mistake NoEvent = no_command line
wrong_in plant line mistake Comment = no_command line
wrong_in plant line mistake other = mistake_text plant line mistake

abbrev pub mistake_line : PlantDefinition → List ℕ → Mistake → List ℕ
mistake_line plant line mistake = codes "mistake " ++ wrong_in plant line mistake mistake.wrong ++ codes "\n"

-- a line is too long
abbrev pub too_long_line : List ℕ
too_long_line = codes "mistake the line has more than " ++ decimal MAX_LINE ++ codes " bytes\n"

-- ---- all of them

-- what is printed of a command that asks for no event, by the line that it stands on, the plant's view, and the lines of its rules
abbrev pub query_text : PlantDefinition → List ℕ → View → List ℕ → Command → List ℕ
query_text plant rules v line Nothing = []
query_text plant rules v line (Asks event) = []
query_text plant rules v line Choices = choices_text plant (sure_in plant v)
query_text plant rules v line State = standing_text plant v
query_text plant rules v line Why = why_text plant v.present rules
query_text plant rules v line (WhyOf connector) = connector_text plant v.present rules connector
query_text plant rules v line Front = front_line (front_of v) ++ codes "\n"
query_text plant rules v line Room = room_text plant v
query_text plant rules v line Save = []
query_text plant rules v line Quit = []
query_text plant rules v line (Mistaken mistake) = mistake_line plant line mistake
query_text plant rules v line TooLong = too_long_line
