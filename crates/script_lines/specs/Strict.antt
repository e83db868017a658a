-- Runs that end at the first refusal.
use Rattle.std.specs.Prelude.{◌≡◌, ℕ, ◌+◌, ◌==◌, ◌&&◌, not, Bool, true, false, if◌then◌else◌, nat_le, List, [], ◌∷◌, ◌++◌, codes, is_none, length, slice_get, take, Option, None, Some, Result, Ok, Err}
use Rattle.std.specs.List.{list_all}
use Rattle.std.specs.Io.KnownBytes.{Appends}
use Rattle.disk_model.specs.DiskState.{DiskState}
use Rattle.plant_core.specs.Driven.{IsDriven}
use Rattle.plant_core.specs.Hands.{HandFields}
use Rattle.plant_core.specs.View.{View, sure_in}
use Rattle.plant_core.specs.declared.events.Event.{Event}
use Rattle.plant_core.specs.declared.events.Event.TheVariants as asked
use Rattle.plant_core.specs.declared.events.Happened.{Happened}
use Rattle.plant_core.specs.declared.events.Happened.TheVariants.{Fire, FireChoice, Flush, Ask, Put, Empty, Save, Trim, Begin, Back, Idle}
use Rattle.plant_core.specs.declared.refused.Refused as by_plant
use Rattle.plant_core.specs.declared.refused.Refused.TheVariants as cause
use Rattle.plant_model.specs.Plant.{PlantDefinition}
use Rattle.script_lines.specs.Answers.{not_now_line, refused_line, standing_text}
use Rattle.script_lines.specs.Runs.{happened_text}
use Rattle.script_lines.specs.declared.strict.Refusal.{Refusal}
use Rattle.script_lines.specs.declared.strict.Refusal.TheVariants.{Refused, NotNow}
use Rattle.script_lines.specs.declared.strict.Stop.{Stop}

-- why an answer is a refusal, if it is one
abbrev pub refusal_of : {X : Type 0} → Result X by_plant.Refused → Option Refusal
refusal_of (Ok x) = None
refusal_of (Err refused) = Some (Refused refused)

-- why the plant refused an event, if it did: where it did not have the choice that was to be fired, it did
abbrev pub refusal_in : Happened → Option Refusal
refusal_in (Fire pick values answer) = refusal_of answer
refusal_in (FireChoice choice values None) = Some NotNow
refusal_in (FireChoice choice values (Some answer)) = refusal_of answer
refusal_in (Flush answer) = refusal_of answer
refusal_in (Ask atom answer) = refusal_of answer
refusal_in (Put saved answer) = refusal_of answer
refusal_in (Empty atom) = None
refusal_in (Save answer) = refusal_of answer
refusal_in (Trim answer) = refusal_of answer
refusal_in (Begin pick values answer) = refusal_of answer
refusal_in (Back returned answer) = refusal_of answer
refusal_in (Idle atom) = None

-- a pick is past so many choices, if there is one
abbrev pub is_past_all : ℕ → ℕ → Bool
is_past_all pick count = not (count == 0) && nat_le count pick

-- an event has a pick that is past the choices that the plant has
abbrev pub is_past : PlantDefinition → View → Event → Bool
is_past plant v (asked.Fire pick values) = is_past_all pick (length (sure_in plant v))
is_past plant v (asked.Begin pick values) = is_past_all pick (length (sure_in plant v))
is_past plant v other = false

-- none of these was refused
abbrev pub NoneRefused : List Happened → Type 0
NoneRefused hs = list_all (λ h. is_none (refusal_in h)) hs ≡ true

-- the run ends for this at the event with the place
abbrev pub stop_at : ℕ → Refusal → Stop
stop_at place refusal = record { place = place; refusal = refusal }

-- Where a run of these events ends: behind the last, if none was refused; at the first that was refused; or, where `passed`, before the first whose pick is
-- past the choices, which was not asked.
abbrev pub IsStopped : PlantDefinition → List Event → List Event → List Happened → View → Bool → Option Stop → Type 0
IsStopped plant events asked hs w false None = (asked ≡ events) × NoneRefused hs
IsStopped plant events asked hs w false (Some stop) =
    (asked ≡ take (stop.place + 1) events)
    × ((before : List Happened) × (last : Happened) × (hs ≡ before ++ last ∷ []) × NoneRefused before × (refusal_in last ≡ Some stop.refusal))
IsStopped plant events asked hs w true None = ⊥
IsStopped plant events asked hs w true (Some stop) =
    (asked ≡ take stop.place events) × NoneRefused hs × (stop.refusal ≡ NotNow)
    × ((event : Event) × (slice_get events stop.place ≡ Some event) × (is_past plant w event ≡ true))

-- what is printed: a line for each answer, and one for an event that was not asked
abbrev pub strict_text : PlantDefinition → List Happened → Bool → List ℕ
strict_text plant hs passed = happened_text plant hs ++ (if passed then not_now_line ++ codes "\n" else [])

-- Events were asked one after another, up to the first that was refused, and the answers were printed.
pub record AreAskedStrictly (plant : PlantDefinition) (digest : List ℕ) (v : View) (s : DiskState) (hands : HandFields) (events : List Event) (stop : Option Stop) (w : View) (m : DiskState) (held : HandFields) (old new : Option (List ℕ)) : Type 0 where
  pub asked : List Event
  pub happened : List Happened
  pub passed : Bool
  pub driven : IsDriven plant digest v s hands asked happened w m held
  pub stopped : IsStopped plant events asked happened w passed stop
  pub printed : Appends old new (strict_text plant happened passed)

-- The same, and then it was printed where the plant stands.
pub record IsStrictRun (plant : PlantDefinition) (digest : List ℕ) (v : View) (s : DiskState) (hands : HandFields) (events : List Event) (stop : Option Stop) (w : View) (m : DiskState) (held : HandFields) (old new : Option (List ℕ)) : Type 0 where
  pub middle : Option (List ℕ)
  pub run : AreAskedStrictly plant digest v s hands events stop w m held old middle
  pub stands : Appends middle new (standing_text plant w)

-- the line of a refusal
abbrev pub refusal_line : Refusal → List ℕ
refusal_line NotNow = not_now_line
refusal_line (Refused refused) = refused_line refused

-- the device failed in the call
abbrev pub is_failure : Refusal → Bool
is_failure (Refused cause.Disk) = true
is_failure refusal = false
