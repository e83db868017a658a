-- What is printed of a run that is stopped at each of its writes and syncs.
use Rattle.std.specs.Prelude.{◌≡◌, ℕ, ◌+◌, ◌*◌, ◌/◌, ◌%◌, Bool, true, false, List, [], ◌∷◌, ◌++◌, codes, decimal, if◌then◌else◌, flat_map, length, slice_get, sum_by, Option, None, Some}
use Rattle.std.specs.Io.KnownBytes.{Appends}
use Rattle.disk_model.specs.declared.change.Tear.{Tear}
use Rattle.disk_model.specs.declared.change.Tear.TheVariants.{Old, New, Gates, Mixed}
use Rattle.plant_core.specs.declared.events.Event.{Event}
use Rattle.plant_image.specs.declared.fault.ImageFault.{ImageFault}
use Rattle.plant_image.specs.declared.fault.ImageFault.TheVariants.{NotFormatted}
use Rattle.plant_model.specs.Plant.{PlantDefinition}
use Rattle.crash_explorer.specs.Exploring.{IsTrial, IsWholeRun}
use Rattle.crash_explorer.specs.declared.booting.Found.{Found}
use Rattle.crash_explorer.specs.declared.booting.Found.TheVariants.{Booted, Refused}
use Rattle.crash_explorer.specs.declared.explorer.TheConstants.{TEARS}
use Rattle.crash_explorer.specs.declared.explorer.Trial.{Trial}
use Rattle.crash_explorer.specs.declared.outcome.Next.{Next}
use Rattle.crash_explorer.specs.declared.watched.Cut.{Cut}
use Rattle.crash_explorer.specs.declared.watched.Cut.TheVariants.{Gate, Body, Sync}
use Rattle.image_commands.specs.Refusals.{refusal_line}
use Rattle.image_commands.specs.declared.refusal.ImageRefusal.TheVariants.{Image}

-- the call of the device that a stop fell in
abbrev pub cut_text : Cut → List ℕ
cut_text (Gate cell) = codes "write gate of cell " ++ decimal cell
cut_text (Body cell) = codes "write body of cell " ++ decimal cell
cut_text Sync = codes "sync"

-- how what was not synced was torn
abbrev pub tear_text : Tear → List ℕ
tear_text Old = codes "Old"
tear_text New = codes "New"
tear_text Gates = codes "Gates"
tear_text Mixed = codes "Mixed"

-- the image was never formatted
abbrev pub is_unformatted : ImageFault → Bool
is_unformatted NotFormatted = true
is_unformatted fault = false

-- what the device boots to that a stop left
abbrev pub found_text : Found → List ℕ
found_text (Booted fired) = codes "boots to " ++ decimal fired
found_text (Refused fault) =
    if is_unformatted fault then codes "reads as never formatted"
    else codes "does not boot (" ++ refusal_line (Image fault) ++ codes ")"

-- what stands in front of the line of a trial that is not right
abbrev pub mark_text : Bool → List ℕ
mark_text right = if right then [] else codes "NOT RIGHT: "

-- how the plant went on that was booted, where that is not right: how many choices it fired, and what the device boots to then
abbrev pub next_text : Option Next → List ℕ
next_text None = []
next_text (Some n) = if n.right then [] else codes ", then with " ++ decimal n.fired ++ codes " more: " ++ found_text n.found

-- The line of a trial: at which stop, what was cut, and how it was torn; what the device boots to then, how many choices were acknowledged, and how the plant
-- went on, where that is not right.
abbrev pub trial_line : Trial → List ℕ
trial_line t =
    mark_text t.right ++ codes "stop " ++ decimal t.stop ++ codes " " ++ cut_text t.cut ++ codes ", torn " ++ tear_text t.tear ++
    codes ": " ++ found_text t.found ++ codes ", acknowledged " ++ decimal t.acked ++ next_text t.next ++ codes "\n"

-- the line of a trial, where trials are listed
abbrev pub listed_line : Bool → Trial → List ℕ
listed_line list t = if list then trial_line t else []

-- one for a trial that is not right
abbrev pub wrong_of : Trial → ℕ
wrong_of t = if t.right then 0 else 1

-- how many stops a run has, how many trials were made, and how many of these were not right
abbrev pub explored_line : ℕ → ℕ → ℕ → List ℕ
explored_line stops boots wrong =
    codes "stops " ++ decimal stops ++ codes " boots " ++ decimal boots ++ codes " bad " ++ decimal wrong ++ codes "\n"

-- The trial with this number, from 0 on: each stop has one for each tear, in order.
abbrev pub IsTrialAt : PlantDefinition → List ℕ → ℕ → List Event → ℕ → Trial → Type 0
IsTrialAt plant digest ring events number t =
    (tear : Tear) × (slice_get TEARS (number % length TEARS) ≡ Some tear) × IsTrial plant digest ring events (number / length TEARS + 1) tear t

-- The trials from this number on.
abbrev pub AreTrialsFrom : PlantDefinition → List ℕ → ℕ → List Event → ℕ → List Trial → Type 0
AreTrialsFrom plant digest ring events number [] = Unit {0}
AreTrialsFrom plant digest ring events number (t ∷ trials) = IsTrialAt plant digest ring events number t × AreTrialsFrom plant digest ring events (number + 1) trials

-- The run of these events came to its end, with so many writes and syncs, and all trials of it were made: each stop under each tear, in order. So many of them are
-- not right. What was printed are their lines, where they are listed, and how many there are.
pub record IsExplored (plant : PlantDefinition) (digest : List ℕ) (ring : ℕ) (events : List Event) (list : Bool) (wrong : ℕ) (old new : Option (List ℕ)) : Type 0 where
  pub stops : ℕ
  pub whole : IsWholeRun plant digest ring events stops
  pub trials : List Trial
  pub each : AreTrialsFrom plant digest ring events 0 trials
  pub all : length trials ≡ length TEARS * stops
  pub wrong_are : wrong ≡ sum_by wrong_of trials
  pub printed : Appends old new (flat_map (listed_line list) trials ++ explored_line stops (length trials) wrong)
