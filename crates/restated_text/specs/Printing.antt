-- What the faults of printing a restated text leave and say.
use Rattle.std.specs.Prelude.{ℕ, ◌<◌, ◌≤◌, List, ◌++◌, length, codes, Option}
use Rattle.std.specs.Fmt.{decimal}
use Rattle.std.specs.Io.KnownBytes.{Keeps}
use Rattle.text_io.specs.declared.reading.TheConstants.{MAX_TEXT}
use Rattle.restated_text.specs.declared.fault.RestateFault.{RestateFault}
use Rattle.restated_text.specs.declared.fault.RestateFault.TheVariants.{TooLong, Memory, Write}

-- a text is too long, and is not written then; nor is any where memory ran out; and a text that is written is not too long
abbrev pub Leaves : RestateFault → List ℕ → Option (List ℕ) → Option (List ℕ) → Type 0
Leaves TooLong text old new = (MAX_TEXT < length text) × Keeps old new
Leaves Memory text old new = Keeps old new
Leaves Write text old new = length text ≤ MAX_TEXT

-- what a fault says to a person
abbrev pub message_of : RestateFault → List ℕ
message_of TooLong = codes "the restated text has more than " ++ decimal MAX_TEXT ++ codes " bytes"
message_of Memory = codes "not enough memory for the text"
message_of Write = codes "the text could not be written"
