-- What becomes of a device that a stop left.
use Rattle.std.specs.Prelude.{◌≡◌, ◌↔◌, ℕ, ◌+◌, ◌<◌, Bool, IsTrue, List, [], ◌∷◌, Option, None, Some, drop, length, slice_index, take}
use Rattle.disk_model.specs.Cells.{Cell, MayBe, cells_of}
use Rattle.disk_model.specs.DiskState.{is_pending, size_of}
use Rattle.disk_model.specs.MemDisk.{state_of, synced_of}
use Rattle.disk_model.specs.Recording.{byte_left}
use Rattle.disk_model.specs.declared.cells.TheConstants.{BODY}
use Rattle.disk_model.specs.declared.change.Tear.{Tear}
use Rattle.disk_model.specs.declared.memory.MemDisk.{MemDisk}
use Rattle.plant_core.specs.View.{View}
use Rattle.plant_core.specs.declared.events.Event.{Event}
use Rattle.plant_core.specs.declared.events.Event.TheVariants.{Fire, Flush}
use Rattle.recovery.specs.Booting.{IsBooted}
use Rattle.plant_model.specs.Firing.{FiringDefinition}
use Rattle.plant_model.specs.Plant.{PlantDefinition}
use Rattle.crash_explorer.specs.Judging.{IsRight, IsRightStop}
use Rattle.crash_explorer.specs.Running.{IsLived}
use Rattle.crash_explorer.specs.Verdicts.{IsFound}
use Rattle.crash_explorer.specs.declared.booting.Found.{Found}
use Rattle.crash_explorer.specs.declared.booting.Found.TheVariants.{Booted, Refused}
use Rattle.crash_explorer.specs.declared.outcome.Next.{Next}
use Rattle.crash_explorer.specs.declared.outcome.Outcome.{Outcome}

-- what a plant that was booted after a stop is asked for
abbrev pub next_events : List Event
next_events = Fire 0 [] ∷ Flush ∷ []

-- These bytes are what a stop under this tear leaves of the device: the pending bytes are torn, and all others are as a read gave them.
pub record IsTorn (tear : Tear) (device : MemDisk) (left : List ℕ) : Type 0 where
  pub size : length left ≡ size_of (state_of device)
  pub each : (i : ℕ) → i < size_of (state_of device) → slice_index left i
      ≡ byte_left tear (BODY + 1) (is_pending (state_of device).now i) i (slice_index (state_of device).now.seen i) (slice_index (synced_of device) i)

-- A plant that was opened with this view, after these firings, goes on: it is asked to fire its first choice without values and to flush, and then the power is cut again. All
-- that it has fired is acknowledged. The answer says how many firings more these are, what the device boots to by the bytes that the stop left, and whether they are
-- right; and they are, as is whatever else a stop might have left of the device.
pub record IsNext (plant : PlantDefinition) (digest : List ℕ) (bytes : ℕ) (tear : Tear) (opened : View) (behind : List FiringDefinition) (n : Next) : Type 0 where
  pub fired : List FiringDefinition
  pub device : MemDisk
  pub lived : IsLived plant digest next_events opened behind fired (length fired) (state_of device)
  pub fired_more : length fired ≡ length behind + n.fired
  pub size : size_of (state_of device) ≡ bytes
  pub all_right : (cells : List Cell) → MayBe (BODY + 1) (state_of device) cells → IsRight plant digest bytes fired [] cells
  pub left : List ℕ
  pub torn : IsTorn tear device left
  pub found_is : IsFound plant digest bytes (cells_of (BODY + 1) left) n.found
  pub right_where : IsTrue n.right ↔ IsRight plant digest bytes fired [] (cells_of (BODY + 1) left)
  pub right_is : IsTrue n.right

-- The plant goes on where it was booted from these cells, after as many of these firings as they hold; and no plant does where none was booted.
abbrev pub IsNextOf : PlantDefinition → List ℕ → ℕ → Tear → List FiringDefinition → List Cell → Found → Option Next → Type 0
IsNextOf plant digest bytes tear fired cells (Booted number) next =
    (opened : View) × IsBooted plant digest bytes cells opened
    × (n : Next) × (next ≡ Some n) × IsNext plant digest bytes tear opened (take number fired) n
IsNextOf plant digest bytes tear fired cells (Refused fault) next = next ≡ None

-- how the plant goes on is right, where it does
abbrev pub IsRightNext : Option Next → Type 0
IsRightNext None = Unit {0}
IsRightNext (Some n) = IsTrue n.right

-- Of cells that a stop left of a run with these firings, so many of them acknowledged: what they boot to; how the plant goes on, where they are right;
-- and whether they are right, and right again when the plant went on.
pub record IsOutcome (plant : PlantDefinition) (digest : List ℕ) (bytes : ℕ) (tear : Tear) (fired : List FiringDefinition) (acked : ℕ) (formatting : Bool) (cells : List Cell) (o : Outcome) : Type 0 where
  pub found_is : IsFound plant digest bytes cells o.found
  pub next_is : IsRightStop plant digest bytes (take acked fired) (drop acked fired) formatting cells → IsNextOf plant digest bytes tear fired cells o.found o.next
  pub right_where : IsTrue o.right ↔ (IsRightStop plant digest bytes (take acked fired) (drop acked fired) formatting cells × IsRightNext o.next)
