-- Why serving ended early, as it is said to a person.
use Rattle.std.specs.Prelude.{ℕ, List, codes}
use Rattle.plant_service.specs.declared.fault.ServeFault.{ServeFault}
use Rattle.plant_service.specs.declared.fault.ServeFault.TheVariants.{Memory, Read, Write}

abbrev pub message_of : ServeFault → List ℕ
message_of Memory = codes "not enough memory to serve the plant"
message_of Read = codes "the lines could not be read"
message_of Write = codes "the answers could not be written"
