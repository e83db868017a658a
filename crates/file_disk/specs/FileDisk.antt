-- What a `FileDisk` shows.
use Rattle.std.specs.Prelude.{◌≡◌, ◌≤◌, ℕ, Bool, List, Option, None}
use Rattle.disk_model.specs.DiskState.{DiskState}
use Rattle.file_disk.specs.Blocks.{NoneFrom}
use Rattle.file_disk.specs.Gathered.{held_in, marks_on}
use Rattle.file_disk.specs.Marks.{all_marked}
use Rattle.file_disk.specs.Opened.{opened}
use Rattle.file_disk.specs.declared.marks.TheConstants.{LARGEST_IMAGE}
use Rattle.file_disk.specs.declared.disk.FileDisk.{FileDisk}

-- the device that it is: it has a size and its counts, and of its bytes nothing is known
abbrev pub state_of : {F : Type 0} → FileDisk F → DiskState
state_of d = record (opened d.size) { failures = d.failures; syncs = d.syncs }

-- the file that it is over
abbrev pub file_of : {F : Type 0} → FileDisk F → F
file_of d = d.file

-- all bytes of the file, with what was written since they were read; nothing before that, and never of a file past the largest image
abbrev pub held_by : {F : Type 0} → FileDisk F → Option (List ℕ)
held_by d = held_in d.gathered

-- for each block whether the disk may not have each byte of it
abbrev pub unsaved_by : {F : Type 0} → FileDisk F → List Bool
unsaved_by d = marks_on d.gathered

-- No byte of the file is held, and none waits for a sync: what a read of the file gives is supposed to be on the disk.
pub record IsUnwritten {F : Type 0} (d : FileDisk F) : Type 0 where
  pub held : held_by d ≡ None
  pub unsaved : NoneFrom (unsaved_by d) 0

-- No byte of the file is held, and each waits for the first sync: what a read of the file gives may not be on the disk.
pub record IsUnread {F : Type 0} (d : FileDisk F) : Type 0 where
  pub held : held_by d ≡ None
  pub unsaved : d.size ≤ LARGEST_IMAGE → unsaved_by d ≡ all_marked d.size
