-- What is kept of a plant that runs while atoms are away.
use Rattle.std.specs.Prelude.{◌≡◌, ◌≤◌, ℕ, true, List, length, slice_get, slice_index_or, Option, Some, None}
use Rattle.petri_atom.specs.Local.{Local, has}
use Rattle.petri_atom.specs.Definition.{AtomDefinition, Fits}
use Rattle.plant_model.specs.Plant.{PlantDefinition}
use Rattle.plant_model.specs.declared.limits.TheConstants.{MAX_ATOMS}
use Rattle.step_core.specs.Parts.{nothing_shown}

-- what parts are kept as: the set of the atoms that are away, and a local state for each atom, of which one that is away shows nothing
pub record ArePartsKept (away : ℕ) (states : List Local) : Type 0 where
  pub few : length states ≤ MAX_ATOMS
  pub hidden : (n : ℕ) → has away n ≡ true → slice_get states n ≡ Some nothing_shown

-- the state of the atom with a number, if there is one and it is present
abbrev pub state_at : List (Option Local) → ℕ → Option Local
state_at parts n = slice_index_or parts n None

-- parts are of a plant where they have a part for each atom
abbrev pub ArePartsOf : PlantDefinition → List (Option Local) → Type 0
ArePartsOf plant parts = length parts ≡ length plant.atoms

-- the state of each atom that is present fits it
abbrev pub AllPresentFit : PlantDefinition → List (Option Local) → Type 0
AllPresentFit plant parts =
    (n : ℕ) (a : AtomDefinition) (s : Local) → slice_get plant.atoms n ≡ Some a → slice_get parts n ≡ Some (Some s) → Fits a s
