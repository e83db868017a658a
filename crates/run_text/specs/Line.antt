-- What the lines of a run say.
use Rattle.std.specs.Prelude.{ℕ, ℤ, List, [], ◌∷◌, ◌++◌, flat_map, slice_get, codes, decimal, if◌then◌else◌}
use Rattle.std.specs.Fmt.{signed_decimal}
use Rattle.std.specs.Option.{option_map_or}
use Rattle.petri_atom.specs.Local.{Local, has, value_in}
use Rattle.petri_atom.specs.Definition.{AtomDefinition, port_name}
use Rattle.petri_atom.specs.declared.parts.Place.{Place}
use Rattle.petri_atom.specs.declared.parts.Variable.{Variable}
use Rattle.plant_model.specs.Plant.{PlantDefinition, wire_name}
use Rattle.plant_model.specs.Choice.{ChoiceDefinition}
use Rattle.plant_model.specs.declared.choice.Move.{Move}
use Rattle.text_io.specs.Numbered.{numbered}
use Rattle.text_io.specs.declared.format.Format.{Format}
use Rattle.text_io.specs.declared.format.Format.TheVariants.{Lines}
use Rattle.run_text.specs.Word.{separated_by, between_text, name_text, assigned_text}

-- the name of the port that a transition of an atom fires; empty if the transition is not there
abbrev pub fired_port_name : AtomDefinition → ℕ → List ℕ
fired_port_name a transition = option_map_or (λ t. port_name a t.port) (slice_get a.transitions transition) []

-- a transition of an atom: the atom's name, the port that the transition fires, and the transition's number
abbrev pub transition_name : AtomDefinition → ℕ → List ℕ
transition_name a transition = a.name ++ codes "." ++ fired_port_name a transition ++ codes "/" ++ decimal transition

-- a participant of a fired interaction
abbrev pub participant : List AtomDefinition → Move → List ℕ
participant atoms m = option_map_or (λ a. transition_name a m.transition) (slice_get atoms m.atom) []

-- a fired interaction: its connector's name, and its participants in rising order of their atoms
abbrev pub interaction_line : PlantDefinition → ChoiceDefinition → List ℕ
interaction_line plant c = wire_name plant c.connector ++ flat_map (λ m. codes " " ++ participant plant.atoms m) c.moves

-- the same after its number
abbrev pub fired_line : PlantDefinition → ℕ → ChoiceDefinition → List ℕ
fired_line plant number c = decimal number ++ codes " " ++ interaction_line plant c

-- the name of the place with number k, if it is marked
abbrev pub marked_name : Format → ℕ → ℕ → Place → List (List ℕ)
marked_name format marking k place = if has marking k then name_text format place.name ∷ [] else []

-- the names of the marked places, in the order of the places
abbrev pub marked_names : Format → ℕ → List Place → List (List ℕ)
marked_names format marking places = numbered (marked_name format marking) 0 places

-- the same as one text
abbrev pub places_text : Format → ℕ → List Place → List ℕ
places_text format marking places = separated_by (between_text format) (marked_names format marking places)

-- the variable with number k and its value
abbrev pub value_word : Format → List ℤ → ℕ → Variable → List (List ℕ)
value_word format values k variable = assigned_text format variable.name (value_in values k) ∷ []

-- the variables with their values, in the order of the variables
abbrev pub value_words : Format → List ℤ → List Variable → List (List ℕ)
value_words format values variables = numbered (value_word format values) 0 variables

-- the variable with number k and its value, with a space before them
abbrev pub value_text : List ℤ → ℕ → Variable → List ℕ
value_text values k variable = codes " " ++ variable.name ++ codes "=" ++ signed_decimal (value_in values k)

-- the variables with their values, in the order of the variables
abbrev pub values_text : List ℤ → List Variable → List ℕ
values_text values variables = numbered (value_text values) 0 variables

-- an atom in a state: its name, its marked places, and its variables with their values
abbrev pub state_line : AtomDefinition → Local → List ℕ
state_line a state =
    codes "state " ++ a.name ++ codes " [" ++ places_text Lines state.marking a.places ++ codes "]" ++
    values_text state.values a.variables

-- the line of the atom with number n in its state, by what is said of an atom in a state
abbrev pub state_text : (AtomDefinition → Local → List ℕ) → List Local → ℕ → AtomDefinition → List ℕ
state_text say states n a = option_map_or (λ state. say a state ++ codes "\n") (slice_get states n) []

-- a line for each atom of a plant, in order
abbrev pub states_said : (AtomDefinition → Local → List ℕ) → PlantDefinition → List Local → List ℕ
states_said say plant states = numbered (state_text say states) 0 plant.atoms

-- the fixed lines of the states
abbrev pub states_text : PlantDefinition → List Local → List ℕ
states_text plant states = states_said state_line plant states
