-- A state as JSON objects, one for each atom.
use Rattle.std.specs.Prelude.{ℕ, List, [], ◌∷◌, ◌++◌, codes}
use Rattle.petri_atom.specs.Definition.{AtomDefinition}
use Rattle.petri_atom.specs.Local.{Local}
use Rattle.plant_model.specs.Plant.{PlantDefinition}
use Rattle.run_text.specs.Jsonl.{state_members}
use Rattle.run_text.specs.Word.{separated_by}
use Rattle.run_states.specs.OfAtoms.{of_atoms}

-- an atom in a state
abbrev pub atom_object : AtomDefinition → Local → List ℕ
atom_object a state = codes "{" ++ state_members a state ++ codes "}"

-- the objects of the atoms
abbrev pub objects_of : PlantDefinition → List Local → List (List ℕ)
objects_of plant states = of_atoms (λ n a state. atom_object a state ∷ []) plant states

-- the end of an object whose last member says a state
abbrev pub states_end : PlantDefinition → List Local → List ℕ
states_end plant states = codes ",\"states\":[" ++ separated_by (codes ",") (objects_of plant states) ++ codes "]}\n"
