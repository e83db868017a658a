-- The head of a value change dump: a module for each atom, with a signal for each of its places and variables.
use Rattle.std.specs.Prelude.{ℕ, List, ◌++◌, codes}
use Rattle.petri_atom.specs.Definition.{AtomDefinition}
use Rattle.petri_atom.specs.declared.parts.Place.{Place}
use Rattle.petri_atom.specs.declared.parts.Variable.{Variable}
use Rattle.plant_model.specs.Plant.{PlantDefinition}
use Rattle.text_io.specs.Numbered.{numbered}
use Rattle.run_states.specs.Signals.{signal_code}

-- a signal: its shape, which is a type and how many bits there are, its code, and its name
abbrev pub signal_declaration : List ℕ → List ℕ → ℕ → ℕ → List ℕ → List ℕ
signal_declaration shape kind atom number name =
    codes "$var " ++ shape ++ codes " " ++ signal_code kind atom number ++ codes " " ++ name ++ codes " $end\n"

-- a place is a wire of one bit
abbrev pub place_declaration : ℕ → ℕ → Place → List ℕ
place_declaration atom k place = signal_declaration (codes "wire 1") (codes "p") atom k place.name

-- a variable has 64 bits
abbrev pub variable_declaration : ℕ → ℕ → Variable → List ℕ
variable_declaration atom k variable = signal_declaration (codes "integer 64") (codes "v") atom k variable.name

-- the module of the atom with a number
abbrev pub module_lines : ℕ → AtomDefinition → List ℕ
module_lines atom a =
    codes "$scope module " ++ a.name ++ codes " $end\n" ++ numbered (place_declaration atom) 0 a.places ++
    numbered (variable_declaration atom) 0 a.variables ++ codes "$upscope $end\n"

-- the head
abbrev pub declarations_of : PlantDefinition → List ℕ
declarations_of plant =
    codes "$version Kilnmace $end\n$timescale 1 ns $end\n" ++ numbered module_lines 0 plant.atoms ++ codes "$enddefinitions $end\n"
