-- A plant with other first states.
use Rattle.std.specs.Prelude.{ℕ, ◌+◌, ◌^◌, ℤ, pos, Bool, false, ◌&&◌, List, [], ◌∷◌, map, slice_get, nat_lt}
use Rattle.std.specs.List.{list_all}
use Rattle.std.specs.Option.{option_map_or}
use Rattle.petri_atom.specs.Definition.{AtomDefinition}
use Rattle.petri_atom.specs.Local.{Local, has}
use Rattle.petri_atom.specs.declared.parts.Place.{Place}
use Rattle.petri_atom.specs.declared.parts.Variable.{Variable}
use Rattle.plant_model.specs.Plant.{PlantDefinition}
use Rattle.plant_text.specs.Text.{PlantText}
use Rattle.read_back.specs.Expressions.{is_in_range}

-- what is made of each of a list, numbered from n
abbrev pub each_numbered : {X Y : Type 0} → (ℕ → X → Y) → ℕ → List X → List Y
each_numbered f n [] = []
each_numbered f n (x ∷ xs) = f n x ∷ each_numbered f (n + 1) xs

-- a place that is marked at first, or is not, by its bit of a marking
abbrev pub place_with : ℕ → ℕ → Place → Place
place_with marking number place = record place { marked = has marking number }

-- a variable with another first value
abbrev pub first_valued : Variable → ℤ → Variable
first_valued variable value = record variable { first = value }

-- a variable with the first value that has its number, if there is one
abbrev pub variable_with : List ℤ → ℕ → Variable → Variable
variable_with values number variable = option_map_or (first_valued variable) (slice_get values number) variable

-- an atom with the state as its first one
abbrev pub atom_in_state : AtomDefinition → Local → AtomDefinition
atom_in_state a state = record a {
  places = each_numbered (place_with state.marking) 0 a.places;
  variables = each_numbered (variable_with state.values) 0 a.variables;
}

-- an atom with the state that has its number as its first one, if there is one
abbrev pub atom_with : List Local → ℕ → AtomDefinition → AtomDefinition
atom_with states number a = option_map_or (atom_in_state a) (slice_get states number) a

-- a plant as it is written, with these states as its atoms' first ones; all else is the same
abbrev pub with_first_states : List Local → PlantText → PlantText
with_first_states states plant = record plant { atoms = each_numbered (atom_with states) 0 plant.atoms }

-- the same of a plant
abbrev pub plant_in_states : List Local → PlantDefinition → PlantDefinition
plant_in_states states plant = record plant { atoms = each_numbered (atom_with states) 0 plant.atoms }

-- a place and a variable but for what they are at first: not marked, and of the value 0
abbrev pub unmarked : Place → Place
unmarked place = record place { marked = false }

abbrev pub unvalued : Variable → Variable
unvalued variable = record variable { first = pos 0 }

-- an atom but for its first state
abbrev pub but_for_its_state : AtomDefinition → AtomDefinition
but_for_its_state a = record a { places = map unmarked a.places; variables = map unvalued a.variables }

-- each value of a state is within signed 64 bits
abbrev pub has_ranged_values : Local → Bool
has_ranged_values state = list_all is_in_range state.values

-- a state that memory can hold: its marking is within 64 bits, and each value within signed 64 bits
abbrev pub is_in_memory : Local → Bool
is_in_memory state = nat_lt state.marking (2 ^ 64) && has_ranged_values state
