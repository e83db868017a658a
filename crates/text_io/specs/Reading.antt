-- What reading a text that can't be had does to its reader, and what a fault says.
use Rattle.std.specs.Prelude.{◌≡◌, ℕ, ◌+◌, ◌≤◌, List, ◌++◌, length, codes, Option}
use Rattle.std.specs.Fmt.{decimal}
use Rattle.std.specs.Io.KnownBytes.{Consumes}
use Rattle.text_io.specs.declared.reading.TheConstants.{MAX_TEXT}
use Rattle.text_io.specs.declared.reading.TextFault.{TextFault}
use Rattle.text_io.specs.declared.reading.TextFault.TheVariants.{TooLong, Memory, Read}

-- how many bytes are read before a fault: one more than a text may have shows that it is too long
abbrev pub IsReadBefore : TextFault → ℕ → Type 0
IsReadBefore TooLong count = count ≡ MAX_TEXT + 1
IsReadBefore Memory count = count ≤ MAX_TEXT
IsReadBefore Read count = count ≤ MAX_TEXT

-- the known bytes of a reader lose what is read before a fault
abbrev pub GivesUp : TextFault → Option (List ℕ) → Option (List ℕ) → Type 0
GivesUp fault old new = (given : List ℕ) × IsReadBefore fault (length given) × Consumes old new given

-- what a fault says to a person
abbrev pub message_of : TextFault → List ℕ
message_of TooLong = codes "the text has more than " ++ decimal MAX_TEXT ++ codes " bytes"
message_of Memory = codes "not enough memory for the text"
message_of Read = codes "the text could not be read"
