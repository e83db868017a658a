-- What the calls do to what a variable of C's holds, and how their answers are told.
use Rattle.std.specs.Prelude.{◌≡◌, ◌≢◌, ℕ, List, Option, None, Some, Result, Ok, Err, MatchResult}
use Rattle.std.specs.Borrow.{Bor}
use Rattle.plant_model.specs.Plant.{PlantDefinition}
use Rattle.plant_model.specs.System.{digest_of, plant_of}
use Rattle.plant_model.specs.declared.system.System.{System}
use Rattle.plant_core.specs.View.{View}
use Rattle.plant_for_c.specs.Statuses.{number_of}
use Rattle.plant_for_c.specs.Things.{IsLook, IsStep, absent_of}
use Rattle.plant_for_c.specs.declared.status.Status.{Status}
use Rattle.plant_for_c.specs.declared.status.Status.TheVariants.{NoHandle}
use Rattle.plant_for_c.specs.declared.thing.Thing.{Thing}
use Rattle.plant_for_c.specs.declared.thing.Thing.TheVariants.{Text}
use Rattle.kilnmace_c.specs.declared.variable.TheConstants.{NOTHING}

-- A variable with this mark holds nothing of the kind that a call asks for: the status says so, and the rest stays.
abbrev pub IsTurnedAway : ℕ → ℕ → ℕ → Type 0 → Type 0
IsTurnedAway kind mark status stays = (mark ≡ NOTHING → (status ≡ 62) × stays) × (mark ≢ NOTHING → mark ≢ kind → (status ≡ 63) × stays)

-- A variable with this mark holds something already, or was not begun as it has to be: the status says so, and the rest stays.
abbrev pub IsTaken : ℕ → ℕ → ℕ → Type 0 → Type 0
IsTaken kind mark status stays = (mark ≢ NOTHING → mark ≡ kind → (status ≡ 64) × stays) × (mark ≢ NOTHING → mark ≢ kind → (status ≡ 63) × stays)

-- why no plant is held
abbrev pub absent_in : Option Thing → Status
absent_in None = NoHandle
absent_in (Some thing) = absent_of thing

-- If a text is held this is its plant; and else there is none.
abbrev pub IsHeldText : Option Thing → Result (Bor System) Status → Type 0
IsHeldText (Some (Text system)) found = found ≡ Ok system
IsHeldText other found = found ≡ Err NoHandle

-- If a text is held, this holds of its plant.
abbrev pub IsHeldPlant : Option Thing → (PlantDefinition → Type 0) → Type 0
IsHeldPlant (Some (Text system)) told = told (plant_of system.now)
IsHeldPlant other told = Unit {0}

-- If a text is held, this holds of its plant and of its digest.
abbrev pub IsHeldSystem : Option Thing → (PlantDefinition → List ℕ → Type 0) → Type 0
IsHeldSystem (Some (Text system)) told = told (plant_of system.now) (digest_of system.now)
IsHeldSystem other told = Unit {0}

-- If a durable plant is held, this holds of its system and of its view; and else that.
abbrev pub IsHeldLook : Option Thing → Type 0 → (PlantDefinition → View → Type 0) → Type 0
IsHeldLook None absent told = absent
IsHeldLook (Some thing) absent told = IsLook thing absent told

-- If something is held, something is held after the call too, and this holds of the two. Where nothing is held, nothing is after it, and that holds.
abbrev pub IsHeldCall : Option Thing → Option Thing → Type 0 → (Thing → Thing → Type 0) → Type 0
IsHeldCall None after absent call = (after ≡ None) × absent
IsHeldCall (Some thing) None absent call = ⊥
IsHeldCall (Some thing) (Some changed) absent call = call thing changed

-- If a durable plant is held, it is held after the call too, and this holds of its system and of its views before and after. Anything else stays, and that holds.
abbrev pub IsHeldStep : Option Thing → Option Thing → Type 0 → (PlantDefinition → View → View → Type 0) → Type 0
IsHeldStep before after absent told = IsHeldCall before after absent (λ thing changed. IsStep thing changed absent told)

-- How a value is told: at 0 it is in the variable; a refusal is told by the number of its status, and leaves the variable as it was.
abbrev pub IsToldAs : {X : Type 0} → Result X Status → ℕ → X → X → Type 0
IsToldAs answer status before after =
    MatchResult answer (λ n. (status ≡ 0) × (after ≡ n)) (λ refused. (status ≡ number_of refused) × (after ≡ before))

-- The status of an answer: 0, or the number of the refusal's.
abbrev pub IsStatusOf : {X : Type 0} → Result X Status → ℕ → Type 0
IsStatusOf answer status = MatchResult answer (λ _. status ≡ 0) (λ refused. status ≡ number_of refused)
