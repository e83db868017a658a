-- Why a replay ends, as it is printed.
use Rattle.std.specs.Prelude.{ℕ, List, ◌++◌, codes, decimal}
use Rattle.record_replay.specs.declared.fault.ReplayFault.{ReplayFault}
use Rattle.record_replay.specs.declared.fault.ReplayFault.TheVariants.{Gap, NotEnabled}

-- what a fault says to a person
abbrev pub message_of : ReplayFault → List ℕ
message_of Gap = codes "firings of the atom are missing"
message_of (NotEnabled number) = codes "record " ++ decimal number ++ codes " fires what the atom could not do"
