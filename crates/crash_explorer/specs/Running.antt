-- What a run comes to.
use Rattle.std.specs.Prelude.{◌≡◌, ℕ, ℤ, ◌+◌, ◌≤◌, Bool, true, false, List, [], ◌++◌, drop, length, map, take, Option, None, Some, Result, Ok, Err}
use Rattle.disk_model.specs.Cells.{Cell, MayBe}
use Rattle.disk_model.specs.DiskState.{DiskState, size_of}
use Rattle.disk_model.specs.MemDisk.{state_of}
use Rattle.disk_model.specs.declared.cells.TheConstants.{BODY}
use Rattle.plant_model.specs.Firing.{FiringDefinition}
use Rattle.plant_model.specs.Chosen.{fired_of, firing_of}
use Rattle.plant_model.specs.Plant.{PlantDefinition}
use Rattle.plant_model.specs.Step.{initial_states}
use Rattle.plant_image.specs.Standing.{StandsFor}
use Rattle.plant_core.specs.Driven.{IsDriven}
use Rattle.plant_core.specs.Events.{all_fired}
use Rattle.plant_core.specs.Hands.{HandFields, empty_hands}
use Rattle.plant_core.specs.View.{View}
use Rattle.plant_core.specs.declared.events.Event.{Event}
use Rattle.plant_core.specs.declared.events.FiredAs.{FiredAs}
use Rattle.plant_core.specs.declared.events.Happened.{Happened}
use Rattle.plant_core.specs.declared.refused.Refused.{Refused}
use Rattle.recovery.specs.Booting.{IsBooted}
use Rattle.crash_explorer.specs.Judging.{IsRightStop, IsRunOf, state_after}
use Rattle.crash_explorer.specs.declared.running.Ended.{Ended}
use Rattle.crash_explorer.specs.declared.running.Stage.{Stage}
use Rattle.crash_explorer.specs.declared.running.Stage.TheVariants.{Formatting, Booting, Running}

-- the device was being formatted
abbrev pub is_formatting : Stage → Bool
is_formatting Formatting = true
is_formatting Booting = false
is_formatting Running = false

-- the choice of an answer, if one was fired, with these values
abbrev pub firing_in : Result FiredAs Refused → List ℤ → Option FiringDefinition
firing_in (Ok fired) inputs = Some (firing_of fired.choice inputs)
firing_in (Err refused) inputs = None

-- the firings of a run, those of them that were acknowledged, and those that were not
abbrev pub fired_in : Ended → List FiringDefinition
fired_in e = map fired_of e.fired.items

abbrev pub acked_in : Ended → List FiringDefinition
acked_in e = take e.acked (fired_in e)

abbrev pub tail_in : Ended → List FiringDefinition
tail_in e = drop e.acked (fired_in e)

-- its device
abbrev pub device_in : Ended → DiskState
device_in e = state_of e.disk.disk

-- What was fired is a run of the plant from its first state, and no more of it is acknowledged. The device has so many bytes, and whatever a stop leaves of it
-- is right.
pub record IsEnded (plant : PlantDefinition) (digest : List ℕ) (bytes : ℕ) (e : Ended) : Type 0 where
  pub run : IsRunOf plant (fired_in e)
  pub acked : e.acked ≤ length (fired_in e)
  pub size : size_of (device_in e) ≡ bytes
  pub stops : (cells : List Cell) → MayBe (BODY + 1) (device_in e) cells → IsRightStop plant digest bytes (acked_in e) (tail_in e) (is_formatting e.stage) cells

-- These are the firings of the plant, a run from its first state, and all are acknowledged.
pub record IsAt (plant : PlantDefinition) (behind : List FiringDefinition) (v : View) : Type 0 where
  pub run : IsRunOf plant behind
  pub acked : v.acked ≡ state_after plant behind
  pub present : v.present ≡ state_after plant behind
  pub tail : v.tail ≡ []
  pub number : v.number ≡ length behind

-- A plant that was opened with this view, after these firings, was asked for the events, from empty hands on, and its device is this then. So these are
-- its firings in all, and so many of them are acknowledged.
pub record IsLived (plant : PlantDefinition) (digest : List ℕ) (events : List Event) (opened : View) (behind fired : List FiringDefinition) (acked : ℕ) (device : DiskState) : Type 0 where
  pub happened : List Happened
  pub closed : View
  pub began : DiskState
  pub hands : HandFields
  pub driven : IsDriven plant digest opened began (empty_hands (length plant.atoms)) events happened closed device hands
  pub fired_are : fired ≡ behind ++ all_fired happened
  pub acked_are : acked ≡ closed.number

-- A plant shows this view when it is booted from a device of so many bytes that was formatted for it: its cells stood for the first state.
pub record IsFirstBoot (plant : PlantDefinition) (digest : List ℕ) (bytes : ℕ) (opened : View) : Type 0 where
  pub cells : List Cell
  pub stood : StandsFor plant digest bytes cells (initial_states plant) 0
  pub booted : IsBooted plant digest bytes cells opened

-- What was fired of a run until it ended: nothing before the plant was there, and then what a plant fires that was booted from a formatted device and is asked
-- for the events.
abbrev pub IsMadeUntil : PlantDefinition → List ℕ → ℕ → List Event → Stage → List FiringDefinition → ℕ → DiskState → Type 0
IsMadeUntil plant digest bytes events Formatting fired acked device = fired ≡ []
IsMadeUntil plant digest bytes events Booting fired acked device = fired ≡ []
IsMadeUntil plant digest bytes events Running fired acked device = (opened : View) × IsFirstBoot plant digest bytes opened × IsLived plant digest events opened [] fired acked device
