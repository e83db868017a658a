-- What the warnings say.
use Rattle.std.specs.Prelude.{ℕ, List, ◌++◌, codes}
use Rattle.plant_model.specs.Plant.{PlantDefinition, wire_name}
use Rattle.plant_warnings.specs.Names.{atom_name, name_of_place, name_of_port, name_of_variable}
use Rattle.plant_warnings.specs.declared.warning.Warning.{Warning}
use Rattle.plant_warnings.specs.declared.warning.Warning.TheVariants.{NoMarkedPlace, PortInNoConnector, PortWithoutTransition, PlaceNeverMarked, VariableNeverRead, ZeroGuard, NothingWithin, DeadSide}

-- what is said about something with a name
abbrev pub about : List ℕ → List ℕ → List ℕ → List ℕ
about before name after = before ++ name ++ after

-- what is said about a part of an atom, by the names of the atom and its own
abbrev pub about_part : List ℕ → List ℕ → List ℕ → List ℕ → List ℕ
about_part before atom part after = before ++ atom ++ codes "." ++ part ++ after

-- what a warning says to a person
abbrev pub message_of : PlantDefinition → Warning → List ℕ
message_of plant (NoMarkedPlace atom) =
    about (codes "atom ") (atom_name plant atom) (codes " has no place that is marked at first, so it never moves")
message_of plant (PortInNoConnector atom port) =
    about_part (codes "port ") (atom_name plant atom) (name_of_port plant atom port) (codes " is in no connector")
message_of plant (PortWithoutTransition atom port) =
    about_part (codes "port ") (atom_name plant atom) (name_of_port plant atom port) (codes " has no transition")
message_of plant (PlaceNeverMarked atom place) =
    about_part (codes "place ") (atom_name plant atom) (name_of_place plant atom place) (codes " is never marked")
message_of plant (VariableNeverRead atom variable) =
    about_part (codes "variable ") (atom_name plant atom) (name_of_variable plant atom variable) (codes " is never read")
message_of plant (ZeroGuard connector guard) =
    about (codes "connector ") (wire_name plant connector) (codes " can't be fired: a guard is 0")
message_of plant (NothingWithin rule connector) =
    about (codes "rule orders nothing: connector ") (wire_name plant connector) (codes " has no interaction within another")
message_of plant (DeadSide rule connector) =
    about (codes "rule orders nothing: connector ") (wire_name plant connector) (codes " can't be fired")
