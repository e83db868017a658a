-- How refusals are printed.
use Rattle.std.specs.Prelude.{ℕ, List, ◌++◌, codes, decimal}
use Rattle.plant_core.specs.declared.refused.Refused.{Refused}
use Rattle.plant_core.specs.declared.refused.Refused.TheVariants.{Stuck, Busy, TailFull, RingFull, Spent, Away, Ahead, Stranger, NothingNew, Disk, Broken, Values}

-- the number by which a refusal is printed
abbrev pub number_of : Refused → ℕ
number_of Stuck = 1
number_of Busy = 2
number_of TailFull = 3
number_of RingFull = 4
number_of Spent = 5
number_of (Away atom) = 6
number_of (Ahead atom) = 7
number_of Stranger = 8
number_of NothingNew = 9
number_of Disk = 10
number_of Broken = 11
number_of Values = 13

-- what a refusal says to a person
abbrev pub message_of : Refused → List ℕ
message_of Stuck = codes "no interaction is possible"
message_of Busy = codes "an atom is away, and no choice is sure to be allowed"
message_of TailFull = codes "a flush has to come before another firing"
message_of RingFull = codes "the ring has no room for another record"
message_of Spent = codes "the record with the greatest number is fired"
message_of (Away atom) = codes "atom " ++ decimal atom ++ codes " is away"
message_of (Ahead atom) = codes "firings of atom " ++ decimal atom ++ codes " are not acknowledged"
message_of Stranger = codes "what was handed in is not what was kept of it"
message_of NothingNew = codes "there is nothing to save, or nothing that may go"
message_of Disk = codes "the device failed"
message_of Broken = codes "the device failed in an earlier call"
message_of Values = codes "the values are not what the inputs of the connector take"
