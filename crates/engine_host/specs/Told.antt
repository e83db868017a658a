-- What a watch is told.
use Rattle.std.specs.Prelude.{◌≡◌, ◌+◌, ◌++◌, ◌∷◌, ◌⊎◌, [], ℕ, ℤ, List, All, Option, None, Some, Result, Ok, Err, is_ok, if◌then◌else◌}
use mathlib.Core.List.{IsPrefix}
use Rattle.plant_core.specs.declared.front.Front.{Front}
use Rattle.front_word.specs.declared.front.TheConstants.{MOST_FIRED}
use Rattle.front_word.specs.Fronts.{last_of}
use Rattle.record_codec.specs.Saved.{SavedFields}
use Rattle.plant_model.specs.Plant.{PlantDefinition}
use Rattle.plant_model.specs.Chosen.{firing_of}
use Rattle.plant_model.specs.declared.choice.Choice.{Choice}
use Rattle.step_core.specs.Job.{JobDefinition}
use Rattle.step_core.specs.Jobs.{AreJobsOf}
use Rattle.plant_core.specs.Events.{IsReturned}
use Rattle.plant_core.specs.View.{View, parts_in}
use Rattle.plant_core.specs.declared.events.Returned.{Returned}
use Rattle.plant_core.specs.declared.events.FiredAs.{FiredAs}
use Rattle.plant_core.specs.declared.events.Happened.{Happened}
use Rattle.plant_core.specs.declared.events.Happened.TheVariants.{Fire, FireChoice, Ask, Put, Begin, Back}
use Rattle.plant_core.specs.declared.refused.Refused.{Refused}
use Rattle.plant_core.specs.declared.refused.Refused.TheVariants.{Spent}
use Rattle.engine_host.specs.History.{IsHistory, IsLegal, entry, fronts}
use Rattle.engine_host.specs.Views.{front_in}
use Rattle.engine_host.specs.declared.entry.Entry.{Entry}

-- Past all that a watch held stands this event, the last of a legal history.
abbrev pub HasMade : PlantDefinition → View → List Entry → Happened → List Entry → Type 0
HasMade plant opening before happened after =
    (middle : List Entry) × (front : Front) × IsPrefix before middle × (after ≡ middle ++ entry happened front ∷ []) × IsLegal plant opening after

-- No event was made, since as many choices were fired as the word can count.
pub record IsUsedUp (plant : PlantDefinition) (opening : View) (before : List Entry) (answer : Result FiredAs Refused) (after : List Entry) : Type 0 where
  pub answer_is : answer ≡ Err Spent
  pub grows : IsPrefix before after
  pub legal : IsLegal plant opening after
  pub full : (last_of (front_in opening) (fronts after)).fired ≡ (front_in opening).fired + MOST_FIRED

-- A fire by a pick with these values: it was made, or no more can be counted.
abbrev pub HasFired : PlantDefinition → View → List Entry → ℕ → List ℤ → Result FiredAs Refused → List Entry → Type 0
HasFired plant opening before pick values answer after =
    HasMade plant opening before (Fire pick values answer) after ⊎ IsUsedUp plant opening before answer after

-- A fire of a choice with these values: it was made, with an answer where the plant had the choice then; or no more can be counted.
abbrev pub HasFiredChoice : PlantDefinition → View → List Entry → Choice → List ℤ → Option (Result FiredAs Refused) → List Entry → Type 0
HasFiredChoice plant opening before choice values answer after =
    HasMade plant opening before (FireChoice choice values answer) after
    ⊎ ((refusal : Result FiredAs Refused) × (answer ≡ Some refusal) × IsUsedUp plant opening before refusal after)

-- how many choices were fired by an answer to a fire of a choice
abbrev pub fired_in : Option (Result FiredAs Refused) → ℕ
fired_in None = 0
fired_in (Some answer) = if is_ok answer then 1 else 0

-- The state of an atom was stored, or it was not: it was asked for, and what was stored is what the plant answered then.
abbrev pub HasSaved : PlantDefinition → View → List Entry → ℕ → Result ℕ Refused → List Entry → Type 0
HasSaved plant opening before atom answer after =
    ((refused : Refused) × (answer ≡ Err refused) × HasMade plant opening before (Ask atom (Err refused)) after)
    ⊎ ((saved : SavedFields) × (asked : List Entry) × HasMade plant opening before (Ask atom (Ok saved)) asked × HasMade plant opening asked (Put saved answer) after)

-- A begin by a pick with these values: it was made and gave these jobs, those of its choice in the view where it began; or it was refused, or no more can be
-- counted, and there is no job.
abbrev pub HasBegun : PlantDefinition → View → List Entry → ℕ → List ℤ → Result FiredAs Refused → List JobDefinition → List Entry → Type 0
HasBegun plant opening before pick values (Ok fired) jobs after =
    (middle : List Entry) × (view : View) × (front : Front) × IsPrefix before middle × IsHistory plant opening middle view
    × AreJobsOf plant (parts_in view) (firing_of fired.choice values) view.counts fired.choice.moves jobs
    × (after ≡ middle ++ entry (Begin pick values (Ok fired)) front ∷ []) × IsLegal plant opening after
HasBegun plant opening before pick values (Err refused) jobs after =
    (jobs ≡ []) × (HasMade plant opening before (Begin pick values (Err refused)) after ⊎ IsUsedUp plant opening before (Err refused) after)

-- A job that was done was handed in: past all that a watch held stands this, with what the plant answered, the last of a legal history.
abbrev pub HasHandedBack : PlantDefinition → View → List Entry → JobDefinition → List Entry → Type 0
HasHandedBack plant opening before job after =
    (returned : Returned) × (answer : Result (Unit {0}) Refused) × IsReturned plant returned job × HasMade plant opening before (Back returned answer) after

-- these jobs were handed in, one after another
abbrev pub AreHandedBack : PlantDefinition → View → List JobDefinition → List Entry → List Entry → Type 0
AreHandedBack plant opening [] before after = after ≡ before
AreHandedBack plant opening (job ∷ jobs) before after =
    (next : List Entry) × HasHandedBack plant opening before job next × AreHandedBack plant opening jobs next after

-- A choice was begun by a pick with these values, or it was not; and where it was, each of its jobs was handed in behind it.
abbrev pub HasWorked : PlantDefinition → View → List Entry → ℕ → List ℤ → Result FiredAs Refused → List Entry → Type 0
HasWorked plant opening before pick values answer after =
    (jobs : List JobDefinition) × (begun : List Entry) × HasBegun plant opening before pick values answer jobs begun × AreHandedBack plant opening jobs begun after

-- One history leads to this view, and all that these watches had seen begins it.
pub record IsClosed (plant : PlantDefinition) (opening : View) (watches : List (List Entry)) (v : View) : Type 0 where
  pub history : List Entry
  pub leads : IsHistory plant opening history v
  pub known : All (λ xs. IsPrefix xs history) watches
