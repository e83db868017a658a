-- What faults say to a person.
use Rattle.std.specs.Prelude.{ℕ, List, ◌++◌, codes}
use Rattle.std.specs.Fmt.{decimal}
use Rattle.connector_tree.specs.Faults as tree
use Rattle.priority_filter.specs.Fault as order
use Rattle.plant_model.specs.declared.fault.SystemFault.{SystemFault}
use Rattle.plant_model.specs.declared.fault.SystemFault.TheVariants.{Limit, BadAtom, BadConnector, BadWire, Order, Memory}
use Rattle.plant_model.specs.declared.fault.WireFault.{WireFault}
use Rattle.plant_model.specs.declared.fault.WireFault.TheVariants.{NameTwice, UnknownPort, UnknownVariable, TargetTwice, EmptyRange}

-- what is wrong with a wire
abbrev pub wire_message : WireFault → List ℕ
wire_message NameTwice = codes "an earlier connector has its name"
wire_message UnknownPort = codes "it names an atom or a port that is not there"
wire_message UnknownVariable = codes "a guard or a transfer names a variable that no leaf exports"
wire_message TargetTwice = codes "two transfers have the same target"
wire_message EmptyRange = codes "no value lies in the range of an input"

-- what is wrong with a plant
abbrev pub message_of : SystemFault → List ℕ
message_of Limit = codes "there is no atom, or a limit of plants is passed"
message_of (BadAtom n) = codes "atom " ++ decimal n ++ codes " has the name of an earlier one"
message_of (BadConnector k fault) = codes "connector " ++ decimal k ++ codes ": " ++ tree.message_of fault
message_of (BadWire k fault) = codes "connector " ++ decimal k ++ codes ": " ++ wire_message fault
message_of (Order fault) = codes "priorities: " ++ order.message_of fault
message_of Memory = codes "not enough memory for the plant"
