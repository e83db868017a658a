-- What becomes of a plant and of its device if some events are asked of it.
use Rattle.std.specs.Prelude.{◌≡◌, ℕ, ◌+◌, true, false, List, map}
use Rattle.std.specs.List.{list_all, list_any}
use Rattle.disk_model.specs.Cells.{Leaves}
use Rattle.disk_model.specs.DiskState.{DiskState, counted, size_of}
use Rattle.disk_model.specs.declared.cells.TheConstants.{BODY}
use Rattle.plant_model.specs.Plant.{PlantDefinition}
use Rattle.plant_core.specs.Events.{IsEventRun, IsHandedRun, all_fired, asked_in, has_failed, is_in_memory, may_call}
use Rattle.plant_core.specs.Hands.{HandFields}
use Rattle.plant_core.specs.Stops.{StandsForFrontSince}
use Rattle.plant_core.specs.View.{View}
use Rattle.plant_core.specs.declared.events.Event.{Event}
use Rattle.plant_core.specs.declared.events.Happened.{Happened}

-- The plant was asked for these events, these things happened, and its view, its device and the hands are these then. A stop at any moment since leaves what
-- stands for the state after some front of what was not acknowledged and what was fired since. The device counts a failure if it failed in a call, and then
-- the plant is broken; if no event makes calls of it, or each was refused before the first, it is as it was.
pub record IsDriven (plant : PlantDefinition) (digest : List ℕ) (v : View) (s : DiskState) (hands : HandFields) (events : List Event) (hs : List Happened) (u : View) (m : DiskState) (held : HandFields) : Type 0 where
  pub asked : map asked_in hs ≡ events
  pub run : IsEventRun plant v hs u
  pub handed : IsHandedRun plant v hands hs u held
  pub stops : s.keeps ≡ true → Leaves (BODY + 1) (StandsForFrontSince plant digest (size_of s) v (all_fired hs)) s m
  pub cause : m.failures ≡ counted (list_any has_failed hs) s.failures
  pub failed : list_any has_failed hs ≡ true → u.broken ≡ true
  pub idle : list_all is_in_memory events ≡ true → m ≡ s
  pub untouched : list_any may_call hs ≡ false → m ≡ s
  pub size : size_of m ≡ size_of s
  pub keeps : m.keeps ≡ s.keeps
