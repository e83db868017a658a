-- What a `BareDisk` shows.
use Rattle.std.specs.Prelude.{false, []}
use Rattle.disk_model.specs.DiskState.{DiskState}
use Rattle.bare_disk.specs.declared.disk.BareDisk.{BareDisk}

-- The device that it is: its bytes and its syncs. It is not said to keep the disk model, so of its bytes a contract learns nothing.
abbrev pub state_of : BareDisk → DiskState
state_of d = record { now = record { seen = d.bytes.items; pending = [] }; past = []; failures = 0; syncs = d.syncs; keeps = false }
