-- What lies under the lock.
use Rattle.std.specs.Prelude.{◌≡◌, ◌+◌, ◌≤◌, ◌++◌, ◌∷◌, [], ℕ, Bool, List, length}
use Rattle.disk_model.specs.DiskState.{DiskState}
use Rattle.disk_model.specs.declared.disk.Disk.{Ghosts}
use Rattle.plant_core.specs.declared.front.Front.{Front}
use Rattle.front_word.specs.declared.front.TheConstants.{MOST_FIRED}
use Rattle.plant_model.specs.Plant.{PlantDefinition}
use Rattle.plant_core.specs.Events.{IsEvent, fired_by}
use Rattle.plant_core.specs.Plants.{device_of, text_digest, view_of}
use Rattle.plant_core.specs.View.{View, fired_number}
use Rattle.plant_core.specs.declared.events.Happened.{Happened}
use Rattle.plant_core.specs.declared.plant.Plant.{Plant}
use Rattle.engine_host.specs.History.{IsHistory, entry}
use Rattle.engine_host.specs.Views.{front_in}
use Rattle.engine_host.specs.declared.entry.Entry.{Entry}

-- What lies under the lock: the view of the plant, its device, the digest of its text, the history, and how many choices were fired since the opening.
pub record Held : Type 0 where
  pub view : View
  pub device : DiskState
  pub digest : List ℕ
  pub history : List Entry
  pub total : ℕ

-- what lies there, by the plant, the history and the book
abbrev pub held_by : {D : Type 0} {disk : Ghosts D} → Plant D disk → List Entry → ℕ → Held
held_by p history total = record { view = view_of p; device = device_of p; digest = text_digest p; history = history; total = total }

-- The history leads from the view at opening to that of the plant, and the book has as many as were fired since. The plant, its text and whether its device
-- keeps the disk model are what they were then.
pub record IsKept (plant : PlantDefinition) (opening : View) (digest : List ℕ) (keeps : Bool) (front : Front) (own : PlantDefinition) (h : Held) : Type 0 where
  pub plant_is : own ≡ plant
  pub digest_is : h.digest ≡ digest
  pub keeps_is : h.device.keeps ≡ keeps
  pub opens : front ≡ front_in opening
  pub history : IsHistory plant opening h.history h.view
  pub booked : h.total + fired_number opening ≡ fired_number h.view
  pub few : h.total ≤ MOST_FIRED

-- One event was made: the view changed by it, and its entry was added to the history.
pub record IsMade (plant : PlantDefinition) (old : Held) (happened : Happened) (new : Held) : Type 0 where
  pub event : IsEvent plant old.view happened new.view
  pub history : new.history ≡ old.history ++ entry happened (front_in new.view) ∷ []
  pub total : new.total ≡ old.total + length (fired_by happened)
  pub digest : new.digest ≡ old.digest
  pub keeps : new.device.keeps ≡ old.device.keeps
