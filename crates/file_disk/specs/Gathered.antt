-- What is held in memory of a file.
use Rattle.std.specs.Prelude.{ℕ, Bool, if◌then◌else◌, List, length, Option, Some, None}
use Rattle.file_disk.specs.declared.gathered.Gathered.{Gathered}
use Rattle.file_disk.specs.Marks.{marked_in}

-- how many bytes the file has
abbrev pub size_in : Gathered → ℕ
size_in all = length all.bytes.items

-- all bytes, as they were read and written since; nothing before the file was read
abbrev pub held_in : Gathered → Option (List ℕ)
held_in all = if all.is_read then Some all.bytes.items else None

-- a mark on each block of which the disk may not have each byte, or none
abbrev pub marks_on : Gathered → List Bool
marks_on all = marked_in all.marks
