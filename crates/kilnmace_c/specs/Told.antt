-- How answers are told to C.
use Rattle.std.specs.Prelude.{◌≡◌, ◌≢◌, ◌⊎◌, ◌<◌, ◌≤◌, ◌++◌, ℕ, Bool, true, false, List, length, drop, Option, None, Some, Result, Ok, Err}
use Rattle.plant_core.specs.declared.events.FiredAs.{FiredAs}
use Rattle.plant_core.specs.declared.events.SavedTo.{SavedTo}
use Rattle.plant_core.specs.declared.refused.Refused.{Refused}
use Rattle.plant_for_c.specs.Refusals.{of_plant}
use Rattle.plant_for_c.specs.Statuses.{message_of, number_of}
use Rattle.plant_for_c.specs.declared.firing.Unfired.{Unfired}
use Rattle.plant_for_c.specs.declared.firing.Unfired.TheVariants as unfired
use Rattle.plant_for_c.specs.declared.status.Status.{Status}
use Rattle.plant_for_c.specs.declared.status.Status.TheVariants as status

-- what an answer is told as; where there is none, why
abbrev pub or_absent : {A X : Type 0} → (A → Result X Status) → Status → Option A → Result X Status
or_absent told absent None = Err absent
or_absent told absent (Some answer) = told answer

-- an answer that is a status already
abbrev pub as_it_is : {X : Type 0} → Result X Status → Result X Status
as_it_is answer = answer

-- what an event of a plant answers
abbrev pub event_status : {X : Type 0} → Result X Refused → Result X Status
event_status (Ok x) = Ok x
event_status (Err refused) = Err (of_plant refused)

-- what a save answers: the atoms
abbrev pub save_status : Result SavedTo Refused → Result ℕ Status
save_status (Ok to) = Ok to.atoms
save_status (Err refused) = Err (of_plant refused)

-- what a fire answers: the number of its record
abbrev pub fire_status : Result FiredAs Unfired → Result ℕ Status
fire_status (Ok fired) = Ok fired.number
fire_status (Err unfired.NoSuch) = Err status.NoSuch
fire_status (Err unfired.NoChoice) = Err status.NoChoice
fire_status (Err unfired.Several) = Err status.Several
fire_status (Err (unfired.Refused refused)) = Err (of_plant refused)

-- what is found, or that there is no such
abbrev pub found_status : {X : Type 0} → Option X → Result X Status
found_status None = Err status.NoSuch
found_status (Some x) = Ok x

-- what a fill answers: that the image has no such place, where it has not
abbrev pub fill_status : Bool → Result ℕ Status
fill_status true = Ok 0
fill_status false = Err status.NoSuch

-- How a row is told: how many there are; and, if there is room, the row at the beginning of the room, whose rest stays.
abbrev pub IsToldRow : {X : Type 0} → List X → ℕ → List X → List X → ℕ → Type 0
IsToldRow row status before after count =
    (count ≡ length row)
    × (length before < length row → (status ≡ 69) × (after ≡ before))
    × (length row ≤ length before → (status ≡ 0) × (after ≡ row ++ drop (length row) before))

-- How the meaning of a status is told: as a row, where one has the number; else that there is no such.
abbrev pub IsToldStatus : ℕ → ℕ → List ℕ → List ℕ → ℕ → ℕ → Type 0
IsToldStatus number status room after counted count =
    ((meant : Status) × (number_of meant ≡ number) × IsToldRow (message_of meant) status room after count)
    ⊎ (((other : Status) → number_of other ≢ number) × (status ≡ 66) × (after ≡ room) × (count ≡ counted))

-- How a name is told: as a row, where it is there; else that there is no such.
abbrev pub IsToldName : Option (List ℕ) → ℕ → List ℕ → List ℕ → ℕ → ℕ → Type 0
IsToldName None status room after counted count = (status ≡ 66) × (after ≡ room) × (count ≡ counted)
IsToldName (Some name) status room after counted count = IsToldRow name status room after count
