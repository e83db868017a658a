-- What the faults say.
use Rattle.std.specs.Prelude.{ℕ, List, ◌++◌, codes}
use Rattle.std.specs.Fmt.{decimal}
use Rattle.priority_filter.specs.declared.fault.OrderFault.{OrderFault}
use Rattle.priority_filter.specs.declared.fault.OrderFault.TheVariants.{Cycle, UnknownName, Memory}

-- what a fault says to a person
abbrev pub message_of : OrderFault → List ℕ
message_of (Cycle interaction) = codes "the rules put interaction " ++ decimal interaction ++ codes " below itself"
message_of (UnknownName rule) = codes "rule " ++ decimal rule ++ codes " names no interaction of the plant"
message_of Memory = codes "out of memory"
