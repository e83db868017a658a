-- The warnings of atoms, and of their parts.
use Rattle.std.specs.Prelude.{ℕ, Bool, not, List, ◌++◌}
use Rattle.std.specs.List.{list_any}
use Rattle.petri_atom.specs.Definition.{AtomDefinition, PortDefinition}
use Rattle.petri_atom.specs.declared.parts.Place.{Place}
use Rattle.petri_atom.specs.declared.parts.Variable.{Variable}
use Rattle.plant_model.specs.Plant.{PlantDefinition}
use Rattle.text_io.specs.Numbered.{numbered}
use Rattle.plant_warnings.specs.Lines.{warned_if}
use Rattle.plant_warnings.specs.Places.{is_never_marked}
use Rattle.plant_warnings.specs.Ports.{is_in_no_connector, has_no_transition}
use Rattle.plant_warnings.specs.Reads.{is_never_read}
use Rattle.plant_warnings.specs.declared.warning.Warning.{Warning}
use Rattle.plant_warnings.specs.declared.warning.Warning.TheVariants.{NoMarkedPlace, PortInNoConnector, PortWithoutTransition, PlaceNeverMarked, VariableNeverRead}

-- no place of the atom is marked at first
abbrev pub has_no_marked_place : AtomDefinition → Bool
has_no_marked_place a = not (list_any (λ place. place.marked) a.places)

-- the warnings of the port with a number: that it stands in no connector, and that no transition has it
abbrev pub warnings_of_port : PlantDefinition → ℕ → AtomDefinition → ℕ → List Warning
warnings_of_port plant number a port =
    warned_if (is_in_no_connector plant number port) (PortInNoConnector number port) ++
    warned_if (has_no_transition a port) (PortWithoutTransition number port)

-- the same of a port of the atom that has this number
abbrev pub port_warnings : PlantDefinition → ℕ → AtomDefinition → ℕ → PortDefinition → List Warning
port_warnings plant number a port made = warnings_of_port plant number a port

-- the warning of a place of the atom that has this number, if there is one
abbrev pub place_warnings : ℕ → AtomDefinition → ℕ → Place → List Warning
place_warnings number a place made = warned_if (is_never_marked a place made) (PlaceNeverMarked number place)

-- the warning of the variable with a number, if there is one
abbrev pub warnings_of_variable : PlantDefinition → ℕ → AtomDefinition → ℕ → List Warning
warnings_of_variable plant number a variable =
    warned_if (is_never_read plant number a variable) (VariableNeverRead number variable)

-- the same of a variable of the atom that has this number
abbrev pub variable_warnings : PlantDefinition → ℕ → AtomDefinition → ℕ → Variable → List Warning
variable_warnings plant number a variable made = warnings_of_variable plant number a variable

-- the warnings of the atom with a number: of itself, its ports, its places and its variables
abbrev pub atom_warnings : PlantDefinition → ℕ → AtomDefinition → List Warning
atom_warnings plant number a =
    warned_if (has_no_marked_place a) (NoMarkedPlace number) ++
    numbered (port_warnings plant number a) 0 a.ports ++
    numbered (place_warnings number a) 0 a.places ++
    numbered (variable_warnings plant number a) 0 a.variables
