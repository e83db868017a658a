-- Why an inspection ends early.
use Rattle.std.specs.Prelude.{ℕ, Bool, true, false, List, codes, Result, Ok, Err}
use Rattle.image_inspection.specs.declared.ending.InspectionEnding.{InspectionEnding}
use Rattle.image_inspection.specs.declared.ending.InspectionEnding.TheVariants.{Disk, Memory, Unwritten}

-- what an ending says to a person
abbrev pub message_of : InspectionEnding → List ℕ
message_of Disk = codes "the device failed"
message_of Memory = codes "not enough memory to read the image"
message_of Unwritten = codes "the text could not be written"

-- the ending is that the device failed
abbrev pub is_disk : InspectionEnding → Bool
is_disk Disk = true
is_disk Memory = false
is_disk Unwritten = false

-- the same of an answer
abbrev pub has_failed : {V : Type 0} → Result V InspectionEnding → Bool
has_failed (Ok value) = false
has_failed (Err ending) = is_disk ending

-- the output could not be written
abbrev pub IsUnwritten : InspectionEnding → Type 0
IsUnwritten Disk = ⊥
IsUnwritten Memory = ⊥
IsUnwritten Unwritten = Unit {0}
