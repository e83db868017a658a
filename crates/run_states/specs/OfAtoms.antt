-- What is said of the atoms of a plant in their states.
use Rattle.std.specs.Prelude.{ℕ, List, [], slice_get}
use Rattle.std.specs.Option.{option_map_or}
use Rattle.petri_atom.specs.Definition.{AtomDefinition}
use Rattle.petri_atom.specs.Local.{Local}
use Rattle.plant_model.specs.Plant.{PlantDefinition}
use Rattle.text_io.specs.Numbered.{numbered}

-- what is said of the atom with a number in its state
abbrev pub of_atom : {X : Type 0} → (ℕ → AtomDefinition → Local → List X) → List Local → ℕ → AtomDefinition → List X
of_atom say states n a = option_map_or (say n a) (slice_get states n) []

-- what is said of each atom in its state, one after another
abbrev pub of_atoms : {X : Type 0} → (ℕ → AtomDefinition → Local → List X) → PlantDefinition → List Local → List X
of_atoms say plant states = numbered (of_atom say states) 0 plant.atoms
