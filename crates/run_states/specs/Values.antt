-- The values of all signals in a state.
use Rattle.std.specs.Prelude.{ℕ, ℤ, List, ◌++◌}
use Rattle.petri_atom.specs.Definition.{AtomDefinition}
use Rattle.petri_atom.specs.Local.{Local, has, value_in}
use Rattle.petri_atom.specs.declared.parts.Place.{Place}
use Rattle.petri_atom.specs.declared.parts.Variable.{Variable}
use Rattle.plant_model.specs.Plant.{PlantDefinition}
use Rattle.text_io.specs.Numbered.{numbered}
use Rattle.run_states.specs.OfAtoms.{of_atoms}
use Rattle.run_states.specs.Signals.{place_value, variable_value}

-- the value of the place with number k
abbrev pub place_value_of : ℕ → ℕ → ℕ → Place → List ℕ
place_value_of atom marking k place = place_value atom k (has marking k)

-- the value of the variable with number k
abbrev pub variable_value_of : ℕ → List ℤ → ℕ → Variable → List ℕ
variable_value_of atom values k variable = variable_value atom k (value_in values k)

-- the values of an atom: of its places, and then of its variables
abbrev pub atom_values : ℕ → AtomDefinition → Local → List ℕ
atom_values atom a state =
    numbered (place_value_of atom state.marking) 0 a.places ++ numbered (variable_value_of atom state.values) 0 a.variables

-- the values of all atoms
abbrev pub values_of : PlantDefinition → List Local → List ℕ
values_of plant states = of_atoms atom_values plant states
