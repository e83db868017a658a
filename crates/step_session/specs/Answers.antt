-- The answers to commands.
use Rattle.std.specs.Prelude.{ℕ, ◌+◌, ◌-◌, Bool, ◌==◌, nat_lt, if◌then◌else◌, List, [], ◌∷◌, ◌++◌, length, take, codes, decimal}
use Rattle.std.specs.List.{position_or_len, range_with_len}
use Rattle.std.specs.Option.{option_map_or}
use Rattle.petri_atom.specs.Local.{Local}
use Rattle.plant_model.specs.Plant.{PlantDefinition, wire_name}
use Rattle.plant_model.specs.Choice.{choices}
use Rattle.text_io.specs.Numbered.{numbered}
use Rattle.run_text.specs.Choices.{choice_text, choices_text}
use Rattle.run_text.specs.Line.{states_text}
use Rattle.run_text.specs.OwnNumbers.{numbers_of}
use Rattle.run_text.specs.Picks.{PickDefinition}
use Rattle.blocked_text.specs.Blocked.{can_fire, connector_text, why_text}
use Rattle.shown_fault.specs.Shown.{shown}
use Rattle.step_session.specs.Behind.{session_behind}
use Rattle.step_session.specs.Command.{CommandDefinition, shows, fires, fires_named, takes_back, fires_random, fires_until, tells, tells_of, saves_to, helps, quits, mistaken, command_in}
use Rattle.plant_model.specs.Lookup.{connector_named}
use Rattle.step_session.specs.Fired.{choices_fired}
use Rattle.step_session.specs.Help.{help_text}
use Rattle.step_session.specs.Mistakes.{mistake_text, no_connector_text}
use Rattle.step_session.specs.Numbers.{several_text}
use Rattle.step_session.specs.Random.{random_places, shifted_by}
use Rattle.step_session.specs.Saved.{Saving, saved_text}
use Rattle.step_session.specs.Session.{SessionDefinition, states_at}

-- ---- where the plant stands

-- the line of each atom's state, and the choices by their numbers
abbrev pub standing_in : PlantDefinition → List Local → List ℕ
standing_in plant states = states_text plant states ++ choices_text plant (choices plant states)

abbrev pub standing_text : PlantDefinition → SessionDefinition → List ℕ
standing_text plant session = standing_in plant (states_at plant session)

-- ---- firings

-- the choices at more places are fired, and the generator is in this state then
abbrev pub fired_more : SessionDefinition → List ℕ → ℕ → SessionDefinition
fired_more session places state = record { fired = session.fired ++ places; random = state }

-- the line of each of them, with its running number
abbrev pub firing_lines : PlantDefinition → SessionDefinition → List ℕ → List ℕ
firing_lines plant session places =
    numbered (choice_text plant) (length session.fired + 1) (choices_fired plant (states_at plant session) places)

-- how many choices there are
abbrev pub choice_count : PlantDefinition → SessionDefinition → ℕ
choice_count plant session = length (choices plant (states_at plant session))

-- which of so many choices there are
abbrev pub there_text : ℕ → List ℕ
there_text count =
    if count == 0 then codes "nothing can be fired"
    else if count == 1 then codes "there is 1 choice (0)"
    else codes "there are " ++ decimal count ++ codes " choices (0 to " ++ decimal (count - 1) ++ codes ")"

-- there is no choice with this number
abbrev pub no_choice_text : ℕ → ℕ → List ℕ
no_choice_text number count = codes "no choice " ++ decimal number ++ codes ": " ++ there_text count ++ codes "\n"

-- the choice with a number is fired, if it is there
abbrev pub fire_session : PlantDefinition → SessionDefinition → ℕ → SessionDefinition
fire_session plant session number =
    if nat_lt number (choice_count plant session) then fired_more session (number ∷ []) session.random else session

abbrev pub fire_text : PlantDefinition → SessionDefinition → ℕ → List ℕ
fire_text plant session number =
    if nat_lt number (choice_count plant session)
    then firing_lines plant session (number ∷ []) ++ standing_text plant (fire_session plant session number)
    else no_choice_text number (choice_count plant session)

-- so many random choices are fired, until nothing is possible; the generator goes on by as many picks
abbrev pub random_session : PlantDefinition → SessionDefinition → ℕ → SessionDefinition
random_session plant session count =
    fired_more session (random_places plant session count) (shifted_by (length (random_places plant session count)) session.random)

abbrev pub random_text : PlantDefinition → SessionDefinition → ℕ → List ℕ
random_text plant session count =
    firing_lines plant session (random_places plant session count) ++ standing_text plant (random_session plant session count)

-- the last firing is taken back, if there is one; the generator stays
abbrev pub without_last : SessionDefinition → SessionDefinition
without_last session = record { fired = take (length session.fired - 1) session.fired; random = session.random }

abbrev pub back_text : PlantDefinition → SessionDefinition → List ℕ
back_text plant session =
    if length session.fired == 0 then codes "nothing is fired yet\n" else standing_text plant (without_last session)

-- ---- reasons

-- the same of the connector with a name, if there is one
abbrev pub why_of_text : PlantDefinition → List ℕ → List Local → List ℕ → List ℕ
why_of_text plant rules states name =
    option_map_or (connector_text plant states rules) (connector_named plant name) (no_connector_text name)

-- ---- firing by the name of a connector

-- the numbers of the connector's present choices
abbrev pub own_numbers : PlantDefinition → SessionDefinition → ℕ → List ℕ
own_numbers plant session connector = numbers_of plant (states_at plant session) connector

-- the choice that has one of these numbers is fired, if there is one number alone
abbrev pub fire_only_session : SessionDefinition → List ℕ → SessionDefinition
fire_only_session session [] = session
fire_only_session session (number ∷ []) = fired_more session (number ∷ []) session.random
fire_only_session session (number ∷ other ∷ others) = session

-- what is told of it; if the connector has no choice, why, and if it has several, their numbers
abbrev pub fire_only_text : PlantDefinition → List ℕ → SessionDefinition → ℕ → List ℕ → List ℕ
fire_only_text plant rules session connector [] = connector_text plant (states_at plant session) rules connector
fire_only_text plant rules session connector (number ∷ []) =
    firing_lines plant session (number ∷ []) ++ standing_text plant (fire_only_session session (number ∷ []))
fire_only_text plant rules session connector (number ∷ other ∷ others) = several_text (wire_name plant connector) number (other ∷ others)

-- the same of the connector with a name, if there is one
abbrev pub fire_named_session : PlantDefinition → SessionDefinition → List ℕ → SessionDefinition
fire_named_session plant session name =
    option_map_or (λ connector. fire_only_session session (own_numbers plant session connector)) (connector_named plant name) session

abbrev pub fire_named_text : PlantDefinition → List ℕ → SessionDefinition → List ℕ → List ℕ
fire_named_text plant rules session name =
    option_map_or (λ connector. fire_only_text plant rules session connector (own_numbers plant session connector)) (connector_named plant name)
    (no_connector_text name)

-- ---- firing until a connector can be fired

-- a connector can be fired where a session stands
abbrev pub is_reached : PlantDefinition → ℕ → SessionDefinition → Bool
is_reached plant connector session = can_fire plant (states_at plant session) connector

-- the fewest random choices after which a connector can be fired, if they are fewer than so many; else so many
abbrev pub count_until : PlantDefinition → SessionDefinition → ℕ → ℕ → ℕ
count_until plant session connector most =
    position_or_len (λ count. is_reached plant connector (random_session plant session count)) (range_with_len 0 most)

-- as many are fired
abbrev pub go_until_session : PlantDefinition → SessionDefinition → ℕ → ℕ → SessionDefinition
go_until_session plant session connector most = random_session plant session (count_until plant session connector most)

-- why no more are fired: the connector can be, there is none of so many choices, or the most are fired
abbrev pub why_stopped_text : Bool → ℕ → ℕ → List ℕ
why_stopped_text reached count most =
    if reached then codes ": can be fired\n"
    else if count == 0 then codes ": can't be fired (stuck)\n"
    else codes ": can't be fired yet (limit " ++ decimal most ++ codes ")\n"

-- the same after the connector's name, where a session stands then
abbrev pub stop_text : PlantDefinition → SessionDefinition → ℕ → ℕ → List ℕ
stop_text plant session connector most =
    wire_name plant connector ++ why_stopped_text (is_reached plant connector session) (choice_count plant session) most

abbrev pub go_until_text : PlantDefinition → SessionDefinition → ℕ → ℕ → List ℕ
go_until_text plant session connector most =
    random_text plant session (count_until plant session connector most) ++ stop_text plant (go_until_session plant session connector most) connector most

-- the same of the connector with a name, if there is one
abbrev pub fire_until_session : PlantDefinition → SessionDefinition → List ℕ → ℕ → SessionDefinition
fire_until_session plant session name most =
    option_map_or (λ connector. go_until_session plant session connector most) (connector_named plant name) session

abbrev pub fire_until_text : PlantDefinition → SessionDefinition → List ℕ → ℕ → List ℕ
fire_until_text plant session name most =
    option_map_or (λ connector. go_until_text plant session connector most) (connector_named plant name) (no_connector_text name)

-- ---- saving

-- the word for so many interactions, and what joins it to a path
abbrev pub interactions_text : ℕ → List ℕ
interactions_text count = if count == 1 then codes " interaction to " else codes " interactions to "

-- so many are saved, or could not be
abbrev pub saving_text : ℕ → Bool → List ℕ
saving_text count said = if said then codes "saved " ++ decimal count ++ interactions_text count else codes "could not save to "

-- the same, with the path as it is shown
abbrev pub save_text : ℕ → List ℕ → Bool → List ℕ
save_text count path said = saving_text count said ++ path ++ codes "\n"

-- ---- each command

-- what is printed; `said` is what the saver says, if it is asked
abbrev pub answer_text : PlantDefinition → List ℕ → SessionDefinition → Bool → CommandDefinition → List ℕ
answer_text plant rules session said shows = standing_text plant session
answer_text plant rules session said (fires number) = fire_text plant session number
answer_text plant rules session said (fires_named name) = fire_named_text plant rules session name
answer_text plant rules session said takes_back = back_text plant session
answer_text plant rules session said (fires_random count) = random_text plant session count
answer_text plant rules session said (fires_until name most) = fire_until_text plant session name most
answer_text plant rules session said tells = why_text plant (states_at plant session) rules
answer_text plant rules session said (tells_of name) = why_of_text plant rules (states_at plant session) name
answer_text plant rules session said (saves_to path) = save_text (length session.fired) (shown path) said
answer_text plant rules session said helps = help_text
answer_text plant rules session said quits = []
answer_text plant rules session said (mistaken mistake) = mistake_text mistake

-- what the session is then
abbrev pub session_after : PlantDefinition → SessionDefinition → CommandDefinition → SessionDefinition
session_after plant session shows = session
session_after plant session (fires number) = fire_session plant session number
session_after plant session (fires_named name) = fire_named_session plant session name
session_after plant session takes_back = without_last session
session_after plant session (fires_random count) = random_session plant session count
session_after plant session (fires_until name most) = fire_until_session plant session name most
session_after plant session tells = session
session_after plant session (tells_of name) = session
session_after plant session (saves_to path) = session
session_after plant session helps = session
session_after plant session quits = session
session_after plant session (mistaken mistake) = session

-- what the saver is asked to save, if it is asked
abbrev pub savings_of : PlantDefinition → SessionDefinition → Bool → CommandDefinition → List Saving
savings_of plant session said shows = []
savings_of plant session said (fires number) = []
savings_of plant session said (fires_named name) = []
savings_of plant session said takes_back = []
savings_of plant session said (fires_random count) = []
savings_of plant session said (fires_until name most) = []
savings_of plant session said tells = []
savings_of plant session said (tells_of name) = []
savings_of plant session said (saves_to path) = record { path = path; text = saved_text plant session; said = said } ∷ []
savings_of plant session said helps = []
savings_of plant session said quits = []
savings_of plant session said (mistaken mistake) = []

-- the session after lines, from one session on
abbrev pub session_from : PlantDefinition → SessionDefinition → List (List ℕ) → SessionDefinition
session_from plant session [] = session
session_from plant session (line ∷ lines) = session_from plant (session_after plant session (command_in line)) lines

-- the session after lines, from the one behind picks on
abbrev pub session_by_lines : PlantDefinition → List PickDefinition → List (List ℕ) → SessionDefinition
session_by_lines plant picks lines = session_from plant (session_behind plant picks) lines
