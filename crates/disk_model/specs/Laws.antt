-- What the definitions of the disk model say of one another.
use Rattle.std.specs.Prelude.{◌≡◌, ◌≢◌, ℕ, ◌*◌, false, slice_index}
use Rattle.disk_model.specs.DiskState.{DiskState, is_pending}

-- the gate of cell k reads closed, and is not pending
pub record IsShut (size : ℕ) (s : DiskState) (k : ℕ) : Type 0 where
  pub gate : slice_index s.now.seen (size * k) ≢ 0xA5
  pub written : is_pending s.now (size * k) ≡ false
