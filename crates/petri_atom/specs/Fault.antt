use Rattle.std.specs.Prelude.{ℕ, List, codes}
use Rattle.petri_atom.specs.declared.fault.AtomFault.{AtomFault}
use Rattle.petri_atom.specs.declared.fault.AtomFault.TheVariants.{Limit, Twice, Unknown, NoPlace, Memory}

-- what a fault says to a person
abbrev pub message_of : AtomFault → List ℕ
message_of Limit = codes "the atom passes a limit"
message_of Twice = codes "a name, an exported variable or a place stands twice"
message_of Unknown = codes "a port, place or variable is not there"
message_of NoPlace = codes "a transition has no source or no target"
message_of Memory = codes "memory ran out"
