-- The names of the parts of a plant with these numbers; empty if a part is not there.
use Rattle.std.specs.Prelude.{ℕ, List, [], slice_get}
use Rattle.std.specs.Option.{option_map_or}
use Rattle.petri_atom.specs.Definition.{AtomDefinition, port_name, variable_name}
use Rattle.plant_model.specs.Plant.{PlantDefinition}

-- what is said of the atom with a number; nothing if it is not there
abbrev pub of_atom : PlantDefinition → ℕ → (AtomDefinition → List ℕ) → List ℕ
of_atom plant atom say = option_map_or say (slice_get plant.atoms atom) []

-- the name of an atom
abbrev pub atom_name : PlantDefinition → ℕ → List ℕ
atom_name plant atom = of_atom plant atom (λ a. a.name)

-- the name of a place of an atom
abbrev pub place_name : AtomDefinition → ℕ → List ℕ
place_name a place = option_map_or (λ p. p.name) (slice_get a.places place) []

-- the names of a port, a place and a variable of the atom with a number
abbrev pub name_of_port : PlantDefinition → ℕ → ℕ → List ℕ
name_of_port plant atom port = of_atom plant atom (λ a. port_name a port)

abbrev pub name_of_place : PlantDefinition → ℕ → ℕ → List ℕ
name_of_place plant atom place = of_atom plant atom (λ a. place_name a place)

abbrev pub name_of_variable : PlantDefinition → ℕ → ℕ → List ℕ
name_of_variable plant atom variable = of_atom plant atom (λ a. variable_name a variable)
