-- The values of the signals that differ between two states.
use Rattle.std.specs.Prelude.{ℕ, ℤ, Bool, if◌then◌else◌, List, [], ◌++◌}
use Rattle.std.specs.Bool.{beq}
use Rattle.std.specs.Ordering.{int_eq}
use Rattle.petri_atom.specs.Definition.{AtomDefinition}
use Rattle.petri_atom.specs.Local.{Local, has, value_in}
use Rattle.petri_atom.specs.declared.parts.Place.{Place}
use Rattle.petri_atom.specs.declared.parts.Variable.{Variable}
use Rattle.plant_model.specs.Plant.{PlantDefinition}
use Rattle.text_io.specs.Numbered.{numbered}
use Rattle.run_states.specs.OfAtoms.{of_atom, of_atoms}
use Rattle.run_states.specs.Signals.{place_value, variable_value}

-- the value of a place, if it had another one before
abbrev pub place_change : ℕ → ℕ → Bool → Bool → List ℕ
place_change atom number was is = if beq was is then [] else place_value atom number is

-- the value of a variable, if it had another one before
abbrev pub variable_change : ℕ → ℕ → ℤ → ℤ → List ℕ
variable_change atom number old new = if int_eq old new then [] else variable_value atom number new

-- the change of the place with number k
abbrev pub place_change_of : ℕ → ℕ → ℕ → ℕ → Place → List ℕ
place_change_of atom old new k place = place_change atom k (has old k) (has new k)

-- the change of the variable with number k
abbrev pub variable_change_of : ℕ → List ℤ → List ℤ → ℕ → Variable → List ℕ
variable_change_of atom old new k variable = variable_change atom k (value_in old k) (value_in new k)

-- the changes of an atom: of its places, and then of its variables
abbrev pub atom_changes : ℕ → AtomDefinition → Local → Local → List ℕ
atom_changes atom a old new =
    numbered (place_change_of atom old.marking new.marking) 0 a.places ++ numbered (variable_change_of atom old.values new.values) 0 a.variables

-- the changes of the atom with a number, whose state is new now
abbrev pub changes_to : List Local → ℕ → AtomDefinition → Local → List ℕ
changes_to old n a new = of_atom (λ n a state. atom_changes n a state new) old n a

-- the changes of all atoms
abbrev pub changes_of : PlantDefinition → List Local → List Local → List ℕ
changes_of plant old new = of_atoms (changes_to old) plant new
