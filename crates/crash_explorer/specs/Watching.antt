-- A device in memory, until one of its calls fails and at that call.
use Rattle.std.specs.Prelude.{◌≡◌, ◌⊎◌, ℕ, ◌+◌, ◌/◌, ◌%◌, ◌^◌, ◌<◌, ◌==◌, ◌&&◌, Bool, true, false, if◌then◌else◌, List, length}
use Rattle.disk_model.specs.DiskState.{DiskState, FailsToWrite, IsUnchanged, moment_of}
use Rattle.disk_model.specs.MemDisk.{changes_of, fuse_of, room_of, state_of}
use Rattle.disk_model.specs.declared.cells.TheConstants.{BODY}
use Rattle.disk_model.specs.declared.fuse.Fuse.{Fuse}
use Rattle.disk_model.specs.declared.fuse.Fuse.TheVariants.{Off, Once, Dead, Change}
use Rattle.disk_model.specs.declared.memory.MemDisk.{MemDisk}
use Rattle.crash_explorer.specs.declared.watched.Cut.{Cut}
use Rattle.crash_explorer.specs.declared.watched.Cut.TheVariants.{Gate, Body, Sync}

-- the fuse fails no call that only reads
abbrev pub lets_read : Fuse → Bool
lets_read Off = true
lets_read (Once k) = false
lets_read (Dead k) = false
lets_read (Change k) = true

-- No call has failed, and none will that only reads. So the device has made as many changes as it was asked for.
pub record IsWhole (d : MemDisk) : Type 0 where
  pub unfailed : (state_of d).failures ≡ 0
  pub counted : changes_of d ≡ moment_of (state_of d)
  pub reads : lets_read (fuse_of d) ≡ true

-- its moments, with those for which its record of changes has room, are counted by 64 bits
abbrev pub IsCountable : MemDisk → Type 0
IsCountable d = room_of d + moment_of (state_of d) < 2 ^ 64

-- what a stop falls in at a write of so many bytes from this number on: one of one byte where a cell begins is of its gate
abbrev pub cut_of : ℕ → ℕ → Cut
cut_of at count = if at % (BODY + 1) == 0 && count == 1 then Gate (at / (BODY + 1)) else Body (at / (BODY + 1))

-- this call failed: a sync, which changed nothing, or a write, of which any part may stand and all is pending
abbrev pub Fails : Cut → DiskState → DiskState → Type 0
Fails cut old new =
    ((cut ≡ Sync) × IsUnchanged old new)
    ⊎ ((at : ℕ) × (bytes : List ℕ) × (cut ≡ cut_of at (length bytes)) × FailsToWrite at bytes old new)

-- The device was stopped at its write or sync with this number, from 1 on: those before it were made and no call failed, this one failed, and none was
-- asked for after it.
pub record IsStoppedAt (number : ℕ) (cut : Cut) (d : MemDisk) : Type 0 where
  pub asked : changes_of d ≡ number
  pub before : DiskState
  pub unfailed : before.failures ≡ 0
  pub made : moment_of before + 1 ≡ number
  pub fails : Fails cut before (state_of d)
