-- Runs of a plant on its image by workers.
use Rattle.std.specs.Prelude.{◌≡◌, ℕ, ◌+◌, true, false, List, ◌++◌, Option}
use Rattle.std.specs.Io.KnownBytes.{Appends}
use Rattle.disk_model.specs.DiskState.{DiskState}
use Rattle.plant_model.specs.Plant.{PlantDefinition}
use Rattle.plant_image.specs.declared.fault.ImageFault.{ImageFault}
use Rattle.plant_core.specs.View.{View, fired_number}
use Rattle.plant_core.specs.declared.events.Event.{Event}
use Rattle.script_lines.specs.Answers.{standing_text}
use Rattle.image_commands.specs.Runs.{IsBootedFrom, StandsForAllAcked}
use Rattle.image_commands.specs.Endings.{IsEndingOf}
use Rattle.worker_runs.specs.Asked.{AreShared}
use Rattle.worker_runs.specs.Printed.{by_line}
use Rattle.worker_runs.specs.declared.ending.WorkersEnding.{WorkersEnding}
use Rattle.worker_runs.specs.declared.ending.WorkersEnding.TheVariants.{Memory, Image}

-- A run of these events by so many workers, up to a view: the plant was booted from the device, the workers shared the events, and so many choices were
-- fired by all together. What was printed is where the plant stands at the end, and how many were fired.
pub record IsRunByWorkers (plant : PlantDefinition) (digest : List ℕ) (s : DiskState) (workers : ℕ) (events : List Event) (after : View) (old new : Option (List ℕ)) : Type 0 where
  pub before : View
  pub booted : IsBootedFrom plant digest s before
  pub shared : AreShared plant before workers events after
  pub fired : ℕ
  pub counted : fired + fired_number before ≡ fired_number after
  pub printed : Appends old new (standing_text plant after ++ by_line fired)

-- A run by workers that ended well: the device failed in no call, and where it keeps the disk model, whatever a stop now leaves of it stands for all that
-- was acknowledged.
pub record HasRunByWorkers (plant : PlantDefinition) (digest : List ℕ) (s : DiskState) (workers : ℕ) (events : List Event) (image : DiskState) (old new : Option (List ℕ)) : Type 0 where
  pub after : View
  pub run : IsRunByWorkers plant digest s workers events after old new
  pub whole : after.broken ≡ false
  pub stands : s.keeps ≡ true → StandsForAllAcked plant digest image after

-- An ending before the workers began: an image is refused by what is wrong with it.
abbrev pub IsEndingOfWorkers : Option ImageFault → WorkersEnding → Type 0
IsEndingOfWorkers found Memory = Unit {0}
IsEndingOfWorkers found (Image ending) = IsEndingOf found ending
