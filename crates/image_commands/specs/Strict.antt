-- Strict runs of plants on images.
use Rattle.std.specs.Prelude.{◌≡◌, ℕ, true, false, List, Option, length}
use Rattle.plant_model.specs.Plant.{PlantDefinition}
use Rattle.disk_model.specs.DiskState.{DiskState}
use Rattle.plant_core.specs.Hands.{HandFields, empty_hands}
use Rattle.plant_core.specs.View.{View}
use Rattle.plant_core.specs.declared.events.Event.{Event}
use Rattle.script_lines.specs.Strict.{IsStrictRun}
use Rattle.script_lines.specs.declared.strict.Stop.{Stop}
use Rattle.image_commands.specs.Runs.{IsBootedFrom, StandsForAllAcked}

-- A strict run of these events on a device, from empty hands, up to a view and an image: the plant was booted from the device, and the events were asked up to
-- the first that was refused. Where the device keeps the disk model and has not failed, whatever a stop now leaves of it stands for all that was acknowledged.
pub record HasRunStrictlyOn (plant : PlantDefinition) (digest : List ℕ) (s : DiskState) (events : List Event) (stop : Option Stop) (image : DiskState) (old new : Option (List ℕ)) : Type 0 where
  pub before : View
  pub began : DiskState
  pub after : View
  pub hands : HandFields
  pub booted : IsBootedFrom plant digest s before
  pub kept : began.keeps ≡ s.keeps
  pub ran : IsStrictRun plant digest before began (empty_hands (length plant.atoms)) events stop after image hands old new
  pub stands : s.keeps ≡ true → after.broken ≡ false → StandsForAllAcked plant digest image after
