-- The parts of a plant by their numbers and by their names.
use Rattle.std.specs.Prelude.{ℕ, List, Option, None, option_map, position, slice_get}
use Rattle.std.specs.Option.{option_map_or}
use Rattle.petri_atom.specs.Name.{is_same_text}
use Rattle.plant_model.specs.Plant.{PlantDefinition}

-- the name of the atom with a number
abbrev pub atom_name : PlantDefinition → ℕ → Option (List ℕ)
atom_name plant atom = option_map (λ a. a.name) (slice_get plant.atoms atom)

-- the name of the connector with a number
abbrev pub connector_name : PlantDefinition → ℕ → Option (List ℕ)
connector_name plant connector = option_map (λ w. w.name) (slice_get plant.wires connector)

-- the name of a place of an atom, both by their numbers
abbrev pub place_name : PlantDefinition → ℕ → ℕ → Option (List ℕ)
place_name plant atom place = option_map_or (λ a. option_map (λ p. p.name) (slice_get a.places place)) (slice_get plant.atoms atom) None

-- the name of a variable of an atom, both by their numbers
abbrev pub variable_name : PlantDefinition → ℕ → ℕ → Option (List ℕ)
variable_name plant atom variable = option_map_or (λ a. option_map (λ v. v.name) (slice_get a.variables variable)) (slice_get plant.atoms atom) None

-- the number of the first place of an atom with the name
abbrev pub place_named : PlantDefinition → ℕ → List ℕ → Option ℕ
place_named plant atom name = option_map_or (λ a. position (λ p. is_same_text p.name name) a.places) (slice_get plant.atoms atom) None

-- the number of the first variable of an atom with the name
abbrev pub variable_named : PlantDefinition → ℕ → List ℕ → Option ℕ
variable_named plant atom name = option_map_or (λ a. position (λ v. is_same_text v.name name) a.variables) (slice_get plant.atoms atom) None
