-- What a `QueuedDisk` shows.
use Rattle.std.specs.Prelude.{ℕ, List, Option, false, []}
use Rattle.disk_model.specs.DiskState.{DiskState}
use Rattle.queued_disk.specs.Steps.{steps_in}
use Rattle.queued_disk.specs.declared.disk.QueuedDisk.{QueuedDisk}

-- the bytes, as they will be once all steps are done
abbrev pub held_by : QueuedDisk → List ℕ
held_by d = d.bytes.items

-- the steps that are still to be done, or are taken
abbrev pub steps_of : QueuedDisk → List (Option (ℕ × List ℕ))
steps_of d = steps_in d.queue

-- The device that it is: its bytes and its counts. It is not said to keep the disk model, so of its bytes a caller of the engine learns nothing.
abbrev pub state_of : QueuedDisk → DiskState
state_of d = record { now = record { seen = held_by d; pending = [] }; past = []; failures = d.failures; syncs = d.syncs; keeps = false }
