-- Connectors and atoms by their names.
use Rattle.std.specs.Prelude.{◌≡◌, ℕ, List, map, take, slice_get, position, Option, Some, None}
use Rattle.petri_atom.specs.Name.{is_same_text}
use Rattle.plant_model.specs.Plant.{PlantDefinition}

-- the names of a plant's connectors, and of its atoms, by their numbers
abbrev pub connector_names : PlantDefinition → List (List ℕ)
connector_names plant = map (λ w. w.name) plant.wires

abbrev pub atom_names : PlantDefinition → List (List ℕ)
atom_names plant = map (λ a. a.name) plant.atoms

-- where the first of some names that is this one stands
abbrev pub place_of : List (List ℕ) → List ℕ → Option ℕ
place_of names name = position (λ known. is_same_text known name) names

-- the number of the connector with the name
abbrev pub connector_named : PlantDefinition → List ℕ → Option ℕ
connector_named plant name = place_of (connector_names plant) name

-- the number of the atom with the name
abbrev pub atom_named : PlantDefinition → List ℕ → Option ℕ
atom_named plant name = place_of (atom_names plant) name

-- no name stands before itself
abbrev pub AreApart : List (List ℕ) → Type 0
AreApart names = (n : ℕ) (name : List ℕ) → slice_get names n ≡ Some name → place_of (take n names) name ≡ None
