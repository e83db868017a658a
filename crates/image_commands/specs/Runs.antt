-- Plants on images, and their runs.
use Rattle.std.specs.Prelude.{◌≡◌, ℕ, ◌+◌, Bool, true, false, List, Option, length}
use Rattle.plant_model.specs.Plant.{PlantDefinition}
use Rattle.disk_model.specs.DiskState.{DiskState, size_of}
use Rattle.disk_model.specs.Cells.{Cell, MayBe, seen_cells}
use Rattle.disk_model.specs.declared.cells.TheConstants.{BODY}
use Rattle.plant_image.specs.Contents.{contents_of, last_number, states_of}
use Rattle.plant_image.specs.Faults.{fault_of}
use Rattle.plant_image.specs.Standing.{StandsFor}
use Rattle.plant_image.specs.declared.fault.ImageFault.{ImageFault}
use Rattle.plant_core.specs.Hands.{HandFields, empty_hands}
use Rattle.plant_core.specs.Stops.{StandsForAcked}
use Rattle.plant_core.specs.View.{View}
use Rattle.plant_core.specs.declared.events.Event.{Event}
use Rattle.recovery.specs.Booting.{IsBooted}
use Rattle.script_lines.specs.Runs.{IsRunOf}

-- what is wrong with the image that a device holds, for this plant and the digest of its text
abbrev pub fault_on : PlantDefinition → List ℕ → DiskState → Option ImageFault
fault_on plant digest s = fault_of plant digest (size_of s) (seen_cells (BODY + 1) s)

-- The plant was booted from the device, which shows this of it. A device of which nothing is known may show anything.
abbrev pub IsBootedFrom : PlantDefinition → List ℕ → DiskState → View → Type 0
IsBootedFrom plant digest s v = s.keeps ≡ true → IsBooted plant digest (size_of s) (seen_cells (BODY + 1) s) v

-- Whatever a stop leaves of the device stands for what its cells read for in the old state: the same state of the plant, and the same number.
abbrev pub StandsAsRead : PlantDefinition → List ℕ → DiskState → DiskState → Type 0
StandsAsRead plant digest old new = (cells : List Cell) → MayBe (BODY + 1) new cells →
    StandsFor plant digest (size_of new) cells (states_of plant (contents_of (length plant.atoms) (seen_cells (BODY + 1) old)))
    (last_number (contents_of (length plant.atoms) (seen_cells (BODY + 1) old)))

-- whatever a stop leaves of the device stands for all that the plant has acknowledged
abbrev pub StandsForAllAcked : PlantDefinition → List ℕ → DiskState → View → Type 0
StandsForAllAcked plant digest s v = (cells : List Cell) → MayBe (BODY + 1) s cells → StandsForAcked plant digest (size_of s) v cells

-- A run of these events on a device, up to a view and an image: the plant was booted from the device, nothing was in the hands of its atoms, each event
-- was answered, and this says whether the device failed. What was printed are the answers, and where the plant stands at the end. What a stop inside the run
-- leaves is said from the device on as the boot left it.
pub record IsRunOn (plant : PlantDefinition) (digest : List ℕ) (s : DiskState) (events : List Event) (failed : Bool) (after : View) (image : DiskState) (old new : Option (List ℕ)) : Type 0 where
  pub before : View
  pub began : DiskState
  pub hands : HandFields
  pub booted : IsBootedFrom plant digest s before
  pub kept : began.keeps ≡ s.keeps
  pub ran : IsRunOf plant digest before began (empty_hands (length plant.atoms)) events failed after image hands old new

-- A run that ended well: the device failed in no call, and where it keeps the disk model, whatever a stop now leaves of it stands for all that was
-- acknowledged.
pub record HasRunOn (plant : PlantDefinition) (digest : List ℕ) (s : DiskState) (events : List Event) (image : DiskState) (old new : Option (List ℕ)) : Type 0 where
  pub after : View
  pub run : IsRunOn plant digest s events false after image old new
  pub stands : s.keeps ≡ true → StandsForAllAcked plant digest image after
