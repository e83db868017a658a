-- What a `MemDisk` shows.
use Rattle.std.specs.Prelude.{◌≡◌, ℕ, ◌+◌, ◌/◌, Bool, true, false, ◌||◌, ◌==◌, nat_lt, if◌then◌else◌, List, [], ◌∷◌, ◌++◌, length, take}
use Rattle.disk_model.specs.declared.fuse.Fuse.{Fuse}
use Rattle.disk_model.specs.declared.memory.MemDisk.{MemDisk}
use Rattle.disk_model.specs.DiskState.{DiskState, counted, overwritten, is_pending, is_within}
use Rattle.disk_model.specs.declared.change.TheConstants.{LONGEST}
use Rattle.disk_model.specs.Fuse.{burns, fuse_after}
use Rattle.disk_model.specs.Recording.{at_rest}

-- the device that it is: it always keeps the disk model
abbrev pub state_of : MemDisk → DiskState
state_of d = record { now = d.recorded.present; past = d.recorded.past; failures = d.failures; syncs = d.syncs; keeps = true }

-- a device with these bytes at which nothing has happened
abbrev pub fresh : List ℕ → DiskState
fresh bytes = record { now = at_rest bytes; past = []; failures = 0; syncs = 0; keeps = true }

abbrev pub fuse_of : MemDisk → Fuse
fuse_of d = d.fuse

-- how many changes more the record has room for
abbrev pub room_of : MemDisk → ℕ
room_of d = d.recorded.room

abbrev pub cell_of : MemDisk → ℕ
cell_of d = d.cell

-- how many writes and syncs were asked for
abbrev pub changes_of : MemDisk → ℕ
changes_of d = d.changes

-- the bytes at the last successful sync
abbrev pub synced_of : MemDisk → List ℕ
synced_of d = d.recorded.synced

-- no change was asked for: the record, the room and the cells are as they were
pub record AsksNoChange (old new : MemDisk) : Type 0 where
  pub room : room_of new ≡ room_of old
  pub cell : cell_of new ≡ cell_of old
  pub changes : changes_of new ≡ changes_of old
  pub synced : synced_of new ≡ synced_of old

-- a read was asked for: it failed if the fuse said so, and changed nothing
pub record IsRead (failed : Bool) (old new : MemDisk) : Type 0 where
  pub fails : failed ≡ burns (fuse_of old) false
  pub fuse : fuse_of new ≡ fuse_after (fuse_of old) false
  pub rest : AsksNoChange old new

-- a change that the record has no place for
abbrev pub is_refused : MemDisk → ℕ → Bool
is_refused d count = nat_lt LONGEST count || room_of d == 0

-- a change was asked for, and was made or not
pub record AsksChange (made : Bool) (last : List ℕ) (old new : MemDisk) : Type 0 where
  pub room : room_of new + (if made then 1 else 0) ≡ room_of old
  pub cell : cell_of new ≡ cell_of old
  pub changes : changes_of new ≡ counted true (changes_of old)
  pub synced : synced_of new ≡ last

-- a write that the fuse failed: the first half of its bytes was written, and its whole range is pending
pub record WritesHalf (at : ℕ) (bytes : List ℕ) (old new : DiskState) : Type 0 where
  pub seen : new.now.seen ≡ overwritten at (take (length bytes / 2) bytes) old.now.seen
  pub pending : (i : ℕ) → is_pending new.now i ≡ (is_pending old.now i || is_within at (length bytes) i)
  pub past : new.past ≡ old.past ++ old.now ∷ []
