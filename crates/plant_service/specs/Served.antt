-- Plants that are served on images.
use Rattle.std.specs.Prelude.{◌≡◌, ℕ, Bool, true, false, List, Option}
use Rattle.plant_model.specs.Plant.{PlantDefinition}
use Rattle.disk_model.specs.DiskState.{DiskState}
use Rattle.plant_core.specs.View.{View}
use Rattle.image_commands.specs.Runs.{IsBootedFrom, StandsForAllAcked}
use Rattle.plant_service.specs.Serving.{IsSession}

-- A plant was booted from a device, and served by the lines of these bytes, up to a view and an image; this says whether the device failed. What a stop inside
-- leaves is said from the device on as the boot left it.
pub record IsServedOn (plant : PlantDefinition) (digest rules : List ℕ) (s : DiskState) (bytes : List ℕ) (failed : Bool) (after : View) (image : DiskState) (old new : Option (List ℕ)) : Type 0 where
  pub before : View
  pub began : DiskState
  pub booted : IsBootedFrom plant digest s before
  pub kept : began.keeps ≡ s.keeps
  pub session : IsSession plant digest rules before began bytes failed after image old new

-- The device failed in no call, and where it keeps the disk model, whatever a stop now leaves of it stands for all that was acknowledged.
pub record HasServedOn (plant : PlantDefinition) (digest rules : List ℕ) (s : DiskState) (bytes : List ℕ) (image : DiskState) (old new : Option (List ℕ)) : Type 0 where
  pub after : View
  pub served : IsServedOn plant digest rules s bytes false after image old new
  pub stands : s.keeps ≡ true → StandsForAllAcked plant digest image after
