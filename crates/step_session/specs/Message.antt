-- What the faults of a session say.
use Rattle.std.specs.Prelude.{ℕ, List, ◌++◌, codes, decimal}
use Rattle.run_text.specs.Message.{read_message, refused_message}
use Rattle.step_session.specs.declared.fault.StepFault.{StepFault}
use Rattle.step_session.specs.declared.fault.StepFault.TheVariants.{Memory, PicksUnread, Refused, Read, Write}

-- what a fault says to a person
abbrev pub message_of : StepFault → List ℕ
message_of Memory = codes "not enough memory for the session"
message_of PicksUnread = read_message
message_of (Refused refusal) = decimal refusal.place ++ codes ": " ++ refused_message refusal.why
message_of Read = codes "the lines could not be read"
message_of Write = codes "the answers could not be written"
