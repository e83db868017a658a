-- The parts of an atom, by their names.
use Rattle.std.specs.Prelude.{ℕ, Bool, false, List, Option, position, slice_get}
use Rattle.std.specs.Option.{option_map_or}
use Rattle.petri_atom.specs.Name.{is_same_text}
use Rattle.petri_atom.specs.Definition.{AtomDefinition, exports_of}
use Rattle.petri_atom.specs.declared.parts.Variable.{Variable}

-- the number of the first place with the name
abbrev pub place_number : AtomDefinition → List ℕ → Option ℕ
place_number a name = position (λ p. is_same_text p.name name) a.places

-- the number of the first variable with the name
abbrev pub variable_number : AtomDefinition → List ℕ → Option ℕ
variable_number a name = position (λ v. is_same_text v.name name) a.variables

-- the number of the first port with the name
abbrev pub port_number : AtomDefinition → List ℕ → Option ℕ
port_number a name = position (λ p. is_same_text p.name name) a.ports

-- the variable with the number is there, and has the name
abbrev pub is_named : List Variable → List ℕ → ℕ → Bool
is_named variables name number = option_map_or (λ v. is_same_text v.name name) (slice_get variables number) false

-- the place, among the variables that the port with the number exports, of the first one with the name
abbrev pub export_number : AtomDefinition → ℕ → List ℕ → Option ℕ
export_number a port name = position (is_named a.variables name) (exports_of a port)
