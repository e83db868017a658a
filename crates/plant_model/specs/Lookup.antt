-- Connectors and atoms looked up by their names, and an interaction by its connector and its atoms.
use Rattle.std.specs.Prelude.{ℕ, Bool, ◌==◌, ◌&&◌, List, map, find, Option, option_map, nat_eq, position}
use Rattle.std.specs.Cmp.Lexicographic.{pointwise}
use Rattle.petri_atom.specs.Name.{is_same_text}
use Rattle.plant_model.specs.Choice.{Interaction}
use Rattle.plant_model.specs.Plant.{PlantDefinition}

-- the number of the first connector with the name
abbrev pub connector_named : PlantDefinition → List ℕ → Option ℕ
connector_named plant name = position (λ w. is_same_text w.name name) plant.wires

-- the number of the first atom with the name
abbrev pub atom_named : PlantDefinition → List ℕ → Option ℕ
atom_named plant name = position (λ a. is_same_text a.name name) plant.atoms

-- the interaction is one of the connector, and its ports are of these atoms, in this order
abbrev pub is_of_atoms : ℕ → List ℕ → Interaction → Bool
is_of_atoms connector atoms i = i.connector == connector && pointwise nat_eq (map (λ p. p.atom) i.ports) atoms

-- the mask of the first interaction of a list that is one of the connector and of these atoms, if there is one
abbrev pub mask_of : List Interaction → ℕ → List ℕ → Option ℕ
mask_of interactions connector atoms = option_map (λ i. i.mask) (find (is_of_atoms connector atoms) interactions)
