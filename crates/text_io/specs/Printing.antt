-- What a call prints to a writer, and what the fault of a writer says.
use Rattle.std.specs.Prelude.{ℕ, List, Option, Result, OnOk, codes}
use Rattle.std.specs.Io.KnownBytes.{Appends}

-- where a call answers `Ok`, its writer took this text, after all that it had taken
abbrev pub Prints : {T E : Type 0} → Result T E → Option (List ℕ) → Option (List ℕ) → List ℕ → Type 0
Prints result old new text = OnOk result (Appends old new text)

-- what the fault of a writer says to a person
abbrev pub write_message : List ℕ
write_message = codes "the text could not be written"
