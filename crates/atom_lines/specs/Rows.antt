-- What each line says of an atom, or the fault of its first word that is at fault. The words are those after
-- the line's first one. Where the atom has as many parts of the line's kind as it may, the line's first word
-- is at fault, before all others.
use Rattle.std.specs.Prelude.{ℕ, not, List, [], ◌∷◌, ◌++◌, length, drop, nat_lt, nat_eq, is_none, Result, Ok}
use Rattle.std.specs.List.{list_any}
use Rattle.std.specs.Option.{ok_or}
use Rattle.petri_atom.specs.Definition.{AtomDefinition, PortDefinition}
use Rattle.petri_atom.specs.declared.parts.Place.{Place}
use Rattle.petri_atom.specs.declared.parts.Variable.{Variable}
use Rattle.petri_atom.specs.declared.state.TheConstants.{MAX_PLACES, MAX_VARIABLES, MAX_EXPORTS}
use Rattle.petri_atom.specs.declared.parts.TheConstants.{MAX_PORTS}
use Rattle.plant_words.specs.Lines.{is_legal_line}
use Rattle.plant_words.specs.declared.line_fault.LineFault.{LineFault}
use Rattle.plant_words.specs.declared.line_fault.LineFault.TheVariants.{NotAscii, Twice, UnknownName, Limit}
use Rattle.plant_words.specs.Reading.{◌>>=◌, check, first_name}
use Rattle.atom_lines.specs.Reading.{mark_in, value_in}
use Rattle.atom_lines.specs.Lookup.{place_number, variable_number, port_number}

-- the atom with one more place after its others
abbrev pub with_place : AtomDefinition → Place → AtomDefinition
with_place a place = record a { places = a.places ++ place ∷ [] }

-- the atom with one more variable after its others
abbrev pub with_variable : AtomDefinition → Variable → AtomDefinition
with_variable a variable = record a { variables = a.variables ++ variable ∷ [] }

-- the atom with one more port after its others
abbrev pub with_port : AtomDefinition → PortDefinition → AtomDefinition
with_port a port = record a { ports = a.ports ++ port ∷ [] }

-- `place NAME` or `place NAME init`: a place with a new name, marked at first with `init`
abbrev pub place_row : List (List ℕ) → AtomDefinition → Result AtomDefinition LineFault
place_row words a = do
  _ ← check (nat_lt (length a.places) MAX_PLACES) Limit
  name ← first_name words
  _ ← check (is_none (place_number a name)) Twice
  marked ← mark_in (drop 1 words)
  Ok (with_place a (record { name = name; marked = marked }))

-- `var NAME INT`: a variable with a new name and its first value
abbrev pub variable_row : List (List ℕ) → AtomDefinition → Result AtomDefinition LineFault
variable_row words a = do
  _ ← check (nat_lt (length a.variables) MAX_VARIABLES) Limit
  name ← first_name words
  _ ← check (is_none (variable_number a name)) Twice
  first ← value_in (drop 1 words)
  Ok (with_variable a (record { name = name; first = first }))

-- The number of the variable that a port exports by the word, after these: none too many, by a word of legal bytes, of a
-- variable that is there, and not exported yet
abbrev pub export_in : AtomDefinition → List ℕ → List ℕ → Result ℕ LineFault
export_in a before word = do
  _ ← check (nat_lt (length before) MAX_EXPORTS) Limit
  _ ← check (is_legal_line word) NotAscii
  number ← ok_or (variable_number a word) UnknownName
  _ ← check (not (list_any (λ k. nat_eq k number) before)) Twice
  Ok number

-- the numbers of the variables that the words name, after these
abbrev pub exports_in : AtomDefinition → List ℕ → List (List ℕ) → Result (List ℕ) LineFault
exports_in a before [] = Ok before
exports_in a before (word ∷ words) = do
  number ← export_in a before word
  exports_in a (before ++ number ∷ []) words

-- `port NAME VAR..`: a port with a new name that exports these variables, each once
abbrev pub port_row : List (List ℕ) → AtomDefinition → Result AtomDefinition LineFault
port_row words a = do
  _ ← check (nat_lt (length a.ports) MAX_PORTS) Limit
  name ← first_name words
  _ ← check (is_none (port_number a name)) Twice
  exports ← exports_in a [] (drop 1 words)
  Ok (with_port a (record { name = name; exports = exports }))
