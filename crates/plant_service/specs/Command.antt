-- What a line asks for.
use Rattle.std.specs.Prelude.{ℕ, Bool, true, false, if◌then◌else◌, nat_lt, List, [], ◌∷◌, codes, length}
use Rattle.std.specs.Option.{option_map_or}
use Rattle.petri_atom.specs.Name.{is_same_text}
use Rattle.plant_words.specs.Lines.{is_legal_line}
use Rattle.plant_words.specs.Words.{words_of}
use Rattle.plant_model.specs.Lookup.{connector_named}
use Rattle.plant_model.specs.Plant.{PlantDefinition}
use Rattle.script_lines.specs.Script.{line_in}
use Rattle.script_lines.specs.declared.line.ScriptLine.{ScriptLine}
use Rattle.script_lines.specs.declared.line.ScriptLine.TheVariants as script
use Rattle.script_lines.specs.declared.mistake.Wrong.TheVariants.{Byte, LeftOver, UnknownConnector}
use Rattle.plant_service.specs.declared.command.Command.{Command}
use Rattle.plant_service.specs.declared.command.Command.TheVariants.{Nothing, Asks, Choices, State, Why, WhyOf, Front, Room, Save, Quit, Mistaken, TooLong}
use Rattle.plant_service.specs.declared.line_length.TheConstants.{MAX_LINE}

-- the command, if no word stands after its first
abbrev pub alone : Command → List (List ℕ) → Command
alone command [] = command
alone command (word ∷ words) = Mistaken (record { word = 1; wrong = LeftOver })

-- the connector whose name is the only one of the words
abbrev pub why_of : ℕ → List (List ℕ) → Command
why_of connector [] = WhyOf connector
why_of connector (word ∷ words) = Mistaken (record { word = 2; wrong = LeftOver })

-- after `why` stands no word, or the name of a connector
abbrev pub why_in : PlantDefinition → List (List ℕ) → Command
why_in plant [] = Why
why_in plant (name ∷ words) =
    option_map_or (λ connector. why_of connector words) (connector_named plant name) (Mistaken (record { word = 1; wrong = UnknownConnector }))

-- what a line asks for as a line of a script
abbrev pub of_script : ScriptLine → Command
of_script script.Nothing = Nothing
of_script (script.Asks event) = Asks event
of_script (script.Mistaken mistake) = Mistaken mistake

-- what a line asks for that has this first word and these after it
abbrev pub command_after : PlantDefinition → List ℕ → List ℕ → List (List ℕ) → Command
command_after plant line first words =
    if is_same_text first (codes "choices") then alone Choices words
    else if is_same_text first (codes "state") then alone State words
    else if is_same_text first (codes "why") then why_in plant words
    else if is_same_text first (codes "front") then alone Front words
    else if is_same_text first (codes "room") then alone Room words
    else if is_same_text first (codes "save") then alone Save words
    else if is_same_text first (codes "quit") then alone Quit words
    else of_script (line_in plant line)

-- the same by all its words
abbrev pub command_by : PlantDefinition → List ℕ → List (List ℕ) → Command
command_by plant line [] = Nothing
command_by plant line (first ∷ words) = command_after plant line first words

-- what a line asks for: one that is too long for nothing, and so one with a byte that no plant text may hold
abbrev pub command_in : PlantDefinition → List ℕ → Command
command_in plant line =
    if nat_lt MAX_LINE (length line) then TooLong
    else if is_legal_line line then command_by plant line (words_of line)
    else Mistaken (record { word = 0; wrong = Byte })

-- the session ends
abbrev pub ends : Command → Bool
ends Quit = true
ends other = false

-- a line asks to end
abbrev pub quits : PlantDefinition → List ℕ → Bool
quits plant line = ends (command_in plant line)
