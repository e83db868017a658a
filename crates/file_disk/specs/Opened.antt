-- A device of which nothing is known but its size.
use Rattle.std.specs.Prelude.{ℕ, false, [], replicate}
use Rattle.disk_model.specs.DiskState.{DiskState}

-- a device of so many bytes, at which nothing has happened; zeros stand for its bytes
abbrev pub opened : ℕ → DiskState
opened bytes = record { now = record { seen = replicate bytes 0; pending = [] }; past = []; failures = 0; syncs = 0; keeps = false }
