-- Which global states are of a plant.
use Rattle.std.specs.Prelude.{◌≡◌, ℕ, List, Some, length, slice_get}
use Rattle.petri_atom.specs.Local.{Local}
use Rattle.petri_atom.specs.Definition.{AtomDefinition, Fits}
use Rattle.plant_model.specs.Plant.{PlantDefinition}

-- a global state is of a plant where it has a local state for each atom
abbrev pub IsOf : PlantDefinition → List Local → Type 0
IsOf plant states = length states ≡ length plant.atoms

-- each local state fits its atom
abbrev pub AllFit : PlantDefinition → List Local → Type 0
AllFit plant states =
    (n : ℕ) (a : AtomDefinition) (s : Local) → slice_get plant.atoms n ≡ Some a → slice_get states n ≡ Some s → Fits a s
