-- The names of a plant's atoms, by their numbers.
use Rattle.std.specs.Prelude.{ℕ, List, [], slice_get}
use Rattle.std.specs.Option.{option_map_or}
use Rattle.plant_model.specs.Plant.{PlantDefinition}

-- the name of the atom with the number; empty if there is no such atom
abbrev pub atom_name : PlantDefinition → ℕ → List ℕ
atom_name plant atom = option_map_or (λ a. a.name) (slice_get plant.atoms atom) []
