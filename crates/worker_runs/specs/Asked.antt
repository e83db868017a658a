-- Which events workers ask, and where these stand in the history of the host.
use Rattle.std.specs.Prelude.{◌≡◌, ℕ, ◌+◌, ◌<◌, ◌%◌, ◌==◌, Bool, true, false, List, [], ◌∷◌, Option, Result}
use mathlib.Core.List.{IsPrefix}
use Rattle.plant_model.specs.Plant.{PlantDefinition}
use Rattle.plant_core.specs.View.{View}
use Rattle.plant_core.specs.declared.events.Event.{Event}
use Rattle.plant_core.specs.declared.events.Event.TheVariants as asked
use Rattle.plant_core.specs.declared.events.FiredAs.{FiredAs}
use Rattle.plant_core.specs.declared.events.Happened.TheVariants.{Flush, Save, Trim}
use Rattle.plant_core.specs.declared.events.SavedTo.{SavedTo}
use Rattle.plant_core.specs.declared.refused.Refused.{Refused}
use Rattle.engine_host.specs.History.{IsHistory}
use Rattle.engine_host.specs.Told.{HasFired, HasFiredChoice, HasMade, HasSaved, HasWorked}
use Rattle.engine_host.specs.declared.entry.Entry.{Entry}

-- An event that a worker asked of the host stands, with some answer, past all that its watch held: a choice was fired, all was acknowledged, the state
-- of an atom or of all that are behind was saved, records were dropped, or a choice was begun and worked to its end. Storing a state and handing a job in by themselves are no
-- events of a worker.
abbrev pub IsAsked : PlantDefinition → View → Event → List Entry → List Entry → Type 0
IsAsked plant opening (asked.Fire pick values) before after = (answer : Result FiredAs Refused) × HasFired plant opening before pick values answer after
IsAsked plant opening (asked.FireChoice choice values) before after = (answer : Option (Result FiredAs Refused)) × HasFiredChoice plant opening before choice values answer after
IsAsked plant opening asked.Flush before after = (answer : Result ℕ Refused) × HasMade plant opening before (Flush answer) after
IsAsked plant opening (asked.Ask atom) before after = (answer : Result ℕ Refused) × HasSaved plant opening before atom answer after
IsAsked plant opening (asked.Put atom) before after = after ≡ before
IsAsked plant opening asked.Save before after = (answer : Result SavedTo Refused) × HasMade plant opening before (Save answer) after
IsAsked plant opening asked.Trim before after = (answer : Result ℕ Refused) × HasMade plant opening before (Trim answer) after
IsAsked plant opening (asked.Begin pick values) before after = (answer : Result FiredAs Refused) × HasWorked plant opening before pick values answer after
IsAsked plant opening (asked.Back atom) before after = after ≡ before

-- An event that is the worker's own was asked, and then the watch may have read on; at another's nothing happened.
pub record IsTurn (plant : PlantDefinition) (opening : View) (is_own : Bool) (event : Event) (before after : List Entry) : Type 0 where
  pub own : is_own ≡ true → (next : List Entry) × IsAsked plant opening event before next × IsPrefix next after
  pub of_another : is_own ≡ false → after ≡ before

-- The worker asked those of the events whose place is its own number modulo that of the workers, one after another; the first of the events has this place.
abbrev pub AreAsked : PlantDefinition → View → ℕ → ℕ → ℕ → List Event → List Entry → List Entry → Type 0
AreAsked plant opening workers worker place [] before after = after ≡ before
AreAsked plant opening workers worker place (event ∷ events) before after =
    (next : List Entry) × IsTurn plant opening (place % workers == worker) event before next × AreAsked plant opening workers worker (place + 1) events next after

-- One history leads to this view, and what each worker has seen of it begins it: there stand all events that are the worker's, in order, among those of the
-- others.
pub record AreShared (plant : PlantDefinition) (opening : View) (workers : ℕ) (events : List Event) (v : View) : Type 0 where
  pub history : List Entry
  pub leads : IsHistory plant opening history v
  pub each : (worker : ℕ) → worker < workers → (seen : List Entry) × AreAsked plant opening workers worker 0 events [] seen × IsPrefix seen history
