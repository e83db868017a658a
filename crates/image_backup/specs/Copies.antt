-- What copying an image leaves and prints.
use Rattle.std.specs.Prelude.{◌≡◌, ◌<◌, ◌≤◌, ℕ, false, List, ◌++◌, codes, decimal, get_or}
use Rattle.disk_model.specs.DiskState.{DiskState, is_pending}
use Rattle.image_backup.specs.declared.copying.BackupEnding.{BackupEnding}
use Rattle.image_backup.specs.declared.copying.BackupEnding.TheVariants.{Failed, Unwritten}
use Rattle.image_backup.specs.Faults.{IsFailure}

-- Each byte is copied, and none is pending: a stop leaves the bytes of the image, and nothing else.
pub record HasCopied (image copy : DiskState) : Type 0 where
  pub seen : copy.now.seen ≡ image.now.seen
  pub synced : (i : ℕ) → is_pending copy.now i ≡ false

-- the bytes with these numbers are those of the image
pub record AreCopied (from to : ℕ) (image copy : DiskState) : Type 0 where
  pub bytes : (i : ℕ) → from ≤ i → i < to → get_or copy.now.seen i 0 ≡ get_or image.now.seen i 0

-- how many cells were copied, and the number of the last record
abbrev pub copied_line : ℕ → ℕ → List ℕ
copied_line cells last = codes "copied " ++ decimal cells ++ codes " front " ++ decimal last ++ codes "\n"

-- copying ends early by a device that failed, or by the output
abbrev pub IsEnding : BackupEnding → Type 0
IsEnding (Failed fault) = IsFailure fault
IsEnding Unwritten = Unit {0}
