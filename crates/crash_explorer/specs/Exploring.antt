-- What an explorer shows, and what it answers of a stop.
use Rattle.std.specs.Prelude.{◌≡◌, ◌↔◌, ℕ, ◌+◌, ◌-◌, ◌*◌, ◌≤◌, IsTrue, List, [], Some, drop, length, slice_get, take}
use Rattle.disk_model.specs.Cells.{Cell, MayBe, cells_of}
use Rattle.disk_model.specs.DiskState.{moment_of, size_of}
use Rattle.disk_model.specs.MemDisk.{changes_of, state_of}
use Rattle.disk_model.specs.declared.cells.TheConstants.{BODY}
use Rattle.disk_model.specs.declared.change.Tear.{Tear}
use Rattle.disk_model.specs.declared.memory.MemDisk.{MemDisk}
use Rattle.plant_core.specs.View.{View}
use Rattle.plant_core.specs.declared.events.Event.{Event}
use Rattle.recovery.specs.Formatting.{formatted_size}
use Rattle.plant_model.specs.Firing.{FiringDefinition}
use Rattle.plant_model.specs.Plant.{PlantDefinition}
use Rattle.plant_model.specs.System.{digest_of, plant_of}
use Rattle.plant_model.specs.declared.system.System.{System}
use Rattle.crash_explorer.specs.Judging.{IsRight, IsRightStop, IsRunOf}
use Rattle.crash_explorer.specs.Running.{IsFirstBoot, IsLived, IsMadeUntil, is_formatting}
use Rattle.crash_explorer.specs.Outcomes.{IsNextOf, IsRightNext, IsTorn}
use Rattle.crash_explorer.specs.Verdicts.{IsFound}
use Rattle.crash_explorer.specs.Watching.{IsStoppedAt}
use Rattle.crash_explorer.specs.declared.explorer.Explorer.{Explorer}
use Rattle.crash_explorer.specs.declared.explorer.TheConstants.{TEARS}
use Rattle.crash_explorer.specs.declared.explorer.Trial.{Trial}

-- the explorer makes the run of these events on a device with a ring of so many records
pub record IsExplorerOf (system : System) (ring : ℕ) (events : List Event) (e : Explorer) : Type 0 where
  pub of_system : e.system.now ≡ system
  pub of_ring : e.ring ≡ ring
  pub of_events : e.events.now ≡ events

-- how many writes and syncs the run makes, as the explorer answers
abbrev pub stops_of : Explorer → ℕ
stops_of e = e.stops

-- A run of these events on a device with a ring of so many records came to its end: the plant was booted from the formatted device and was asked for all of
-- the events, no call of the device failed, and whatever a stop leaves then is right. So many writes and syncs were asked of the device, and each was made.
pub record IsWholeRun (plant : PlantDefinition) (digest : List ℕ) (ring : ℕ) (events : List Event) (stops : ℕ) : Type 0 where
  pub opened : View
  pub first : IsFirstBoot plant digest (formatted_size plant ring) opened
  pub fired : List FiringDefinition
  pub acked : ℕ
  pub device : MemDisk
  pub lived : IsLived plant digest events opened [] fired acked (state_of device)
  pub size : size_of (state_of device) ≡ formatted_size plant ring
  pub unfailed : (state_of device).failures ≡ 0
  pub asked : stops ≡ changes_of device
  pub made : stops ≡ moment_of (state_of device)
  pub all_right : (cells : List Cell) → MayBe (BODY + 1) (state_of device) cells → IsRight plant digest (formatted_size plant ring) (take acked fired) (drop acked fired) cells

-- how many trials are still to come: one for each stop from the next on and each tear, without those that were made of the next
abbrev pub trials_left : Explorer → ℕ
trials_left e = length TEARS * (e.stops - e.stop) - e.tear

-- A trial is that of a run of these events which was stopped at its write or sync with this number, and torn so. It says what that call was, how many choices
-- were fired and how many of these were acknowledged, what the device boots to by the bytes that the stop left, how the plant then goes on, and whether both
-- are right; and they are, as is whatever else the stop might have left of the device.
pub record IsTrial (plant : PlantDefinition) (digest : List ℕ) (ring : ℕ) (events : List Event) (stop : ℕ) (tear : Tear) (t : Trial) : Type 0 where
  pub stop_is : t.stop ≡ stop
  pub tear_is : t.tear ≡ tear
  pub fired : List FiringDefinition
  pub device : MemDisk
  pub stopped : ∥ IsStoppedAt stop t.cut device ∥₁
  pub made : IsMadeUntil plant digest (formatted_size plant ring) events t.stage fired t.acked (state_of device)
  pub run : IsRunOf plant fired
  pub fired_many : t.fired ≡ length fired
  pub acked_many : t.acked ≤ t.fired
  pub size : size_of (state_of device) ≡ formatted_size plant ring
  pub all_right : (cells : List Cell) → MayBe (BODY + 1) (state_of device) cells
      → IsRightStop plant digest (formatted_size plant ring) (take t.acked fired) (drop t.acked fired) (is_formatting t.stage) cells
  pub left : List ℕ
  pub torn : IsTorn tear device left
  pub found_is : IsFound plant digest (formatted_size plant ring) (cells_of (BODY + 1) left) t.found
  pub next_is : IsNextOf plant digest (formatted_size plant ring) tear fired (cells_of (BODY + 1) left) t.found t.next
  pub right_where : IsTrue t.right ↔ (IsRightStop plant digest (formatted_size plant ring) (take t.acked fired) (drop t.acked fired) (is_formatting t.stage)
      (cells_of (BODY + 1) left) × IsRightNext t.next)
  pub right_is : IsTrue t.right

-- The trial is that of the next stop under the next tear.
abbrev pub IsNextTrial : Explorer → Trial → Type 0
IsNextTrial e t =
    (tear : Tear) × (slice_get TEARS e.tear ≡ Some tear) × IsTrial (plant_of e.system.now) (digest_of e.system.now) e.ring e.events.now (e.stop + 1) tear t
