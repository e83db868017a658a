-- What marks show.
use Rattle.std.specs.Prelude.{ℕ, Bool, true, List, replicate}
use Rattle.std.specs.Int.{div_ceil}
use Rattle.file_disk.specs.declared.gathered.TheConstants.{BLOCK}
use Rattle.file_disk.specs.declared.marks.Marks.{Marks}

-- for each block whether it is marked
abbrev pub marked_in : Marks → List Bool
marked_in marks = marks.blocks.items

-- a mark on each block of a file that has so many bytes
abbrev pub all_marked : ℕ → List Bool
all_marked bytes = replicate (div_ceil bytes BLOCK) true
