-- A state as columns of a row: for each atom its marked places, and then each of its variables.
use Rattle.std.specs.Prelude.{ℕ, ℤ, List, ◌++◌, flat_map, codes}
use Rattle.std.specs.Fmt.{signed_decimal}
use Rattle.petri_atom.specs.Definition.{AtomDefinition}
use Rattle.petri_atom.specs.Local.{Local, value_in}
use Rattle.petri_atom.specs.declared.parts.Variable.{Variable}
use Rattle.plant_model.specs.Plant.{PlantDefinition}
use Rattle.text_io.specs.Numbered.{numbered}
use Rattle.text_io.specs.declared.format.Format.TheVariants.{Csv}
use Rattle.run_text.specs.Line.{places_text}
use Rattle.run_states.specs.OfAtoms.{of_atoms}

-- the name of a variable's column: the names of its atom and of itself
abbrev pub variable_name : List ℕ → Variable → List ℕ
variable_name atom variable = codes "," ++ atom ++ codes "." ++ variable.name

-- the names of the columns of an atom
abbrev pub atom_names : AtomDefinition → List ℕ
atom_names a = codes "," ++ a.name ++ flat_map (variable_name a.name) a.variables

-- the names of all columns: the five of a step, and those of each atom
abbrev pub names_of : PlantDefinition → List ℕ
names_of plant = codes "kind,number,name,parts,values" ++ flat_map atom_names plant.atoms

-- a value
abbrev pub value_text : ℤ → List ℕ
value_text value = codes "," ++ signed_decimal value

-- the value of the variable with number k
abbrev pub value_column : List ℤ → ℕ → Variable → List ℕ
value_column values k variable = value_text (value_in values k)

-- the columns of an atom in a state
abbrev pub atom_columns : AtomDefinition → Local → List ℕ
atom_columns a state = codes "," ++ places_text Csv state.marking a.places ++ numbered (value_column state.values) 0 a.variables

-- the columns of a state
abbrev pub columns_of : PlantDefinition → List Local → List ℕ
columns_of plant states = of_atoms (λ n. atom_columns) plant states
