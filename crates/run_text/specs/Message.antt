-- What a refused pick and the faults of a run say.
use Rattle.std.specs.Prelude.{ℕ, ◌-◌, ◌==◌, List, ◌++◌, codes, decimal, if◌then◌else◌}
use Rattle.run_text.specs.declared.pick.Misread.{Misread}
use Rattle.run_text.specs.declared.pick.Misread.TheVariants.{TooLong, UnknownConnector, UnknownMove, NoInteraction}
use Rattle.run_text.specs.declared.fault.RefusedPick.{RefusedPick}
use Rattle.run_text.specs.declared.fault.RefusedPick.TheVariants as refused
use Rattle.run_text.specs.declared.fault.TraceFault.{TraceFault}
use Rattle.run_text.specs.declared.fault.TraceFault.TheVariants.{Memory, Write, Read, Refused}

-- what is wrong with a line that names no choice of the plant
abbrev pub misread_message : Misread → List ℕ
misread_message TooLong = codes "longer than a pick can be"
misread_message (UnknownConnector word) = codes "'" ++ word ++ codes "' is no connector, and no number within 64 bits that stands alone"
misread_message (UnknownMove word) = codes "'" ++ word ++ codes "' is no transition of the plant: ATOM.PORT/NUMBER is wanted"
misread_message NoInteraction = codes "these participants are no interaction of the connector"

-- how many choices there are, with the numbers that they have if there are some
abbrev pub count_message : ℕ → List ℕ
count_message count =
    if count == 0 then codes "there is no choice" else
    (if count == 1 then codes "there is 1 choice (0)" else
    codes "there are " ++ decimal count ++ codes " choices (0 to " ++ decimal (count - 1) ++ codes ")")

-- why a pick is refused
abbrev pub refused_message : RefusedPick → List ℕ
refused_message (refused.PastList pick count) = codes "pick " ++ decimal pick ++ codes ", but " ++ count_message count
refused_message refused.NotPossible = codes "this can't be fired now"
refused_message (refused.Misread misread) = misread_message misread
refused_message refused.TooMany = codes "more than 18446744073709551615 interactions"

-- what the fault of a source of picks says to a person
abbrev pub read_message : List ℕ
read_message = codes "the picks could not be read"

-- what a fault says to a person
abbrev pub message_of : TraceFault → List ℕ
message_of Memory = codes "not enough memory for the states of the plant"
message_of Write = codes "the trace could not be written"
message_of Read = read_message
message_of (Refused refusal) = decimal refusal.place ++ codes ": " ++ refused_message refusal.why
