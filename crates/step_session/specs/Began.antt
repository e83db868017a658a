-- How it is answered whether a session began.
use Rattle.std.specs.Prelude.{◌≡◌, ℕ, List, Option, Some, None, IfSome, Result, Ok, Err}
use Rattle.petri_atom.specs.Local.{Local}
use Rattle.plant_model.specs.Plant.{PlantDefinition}
use Rattle.run_text.specs.Picks.{PickDefinition}
use Rattle.run_text.specs.Runs.{refusal_in}
use Rattle.run_text.specs.declared.fault.Refusal.{Refusal}
use Rattle.step_session.specs.declared.fault.AnswerFault.{AnswerFault}
use Rattle.step_session.specs.declared.fault.AnswerFault.TheVariants as answer
use Rattle.step_session.specs.declared.fault.StepFault.{StepFault}
use Rattle.step_session.specs.declared.fault.StepFault.TheVariants.{Memory, PicksUnread, Refused, Read, Write}

-- the fault of a session at a fault of what comes after its beginning
abbrev pub of_answer : AnswerFault → StepFault
of_answer answer.Memory = Memory
of_answer answer.Read = Read
of_answer answer.Write = Write

-- if neither the memory nor the source of the picks failed, P holds of the refusal that is answered, or of none
abbrev pub IfBegan : {X : Type 0} → Result X StepFault → (Option Refusal → Type 0) → Type 0
IfBegan (Ok x) P = P None
IfBegan (Err Memory) P = Unit {0}
IfBegan (Err PicksUnread) P = Unit {0}
IfBegan (Err (Refused refusal)) P = P (Some refusal)
IfBegan (Err Read) P = P None
IfBegan (Err Write) P = P None

-- if the picks kept a session from beginning, P holds
abbrev pub IfUnbegun : {X : Type 0} → Result X StepFault → Type 0 → Type 0
IfUnbegun (Ok x) P = Unit {0}
IfUnbegun (Err Memory) P = Unit {0}
IfUnbegun (Err PicksUnread) P = P
IfUnbegun (Err (Refused refusal)) P = P
IfUnbegun (Err Read) P = Unit {0}
IfUnbegun (Err Write) P = Unit {0}

-- a fault of the picks: they can't be read, or known picks refuse this one in a state
abbrev pub IsOfPick : PlantDefinition → List Local → ℕ → Option (List PickDefinition) → StepFault → Type 0
IsOfPick plant states number left PicksUnread = Unit {0}
IsOfPick plant states number left (Refused refusal) = IfSome left (λ picks. refusal_in plant states number picks ≡ Some refusal)
IsOfPick plant states number left Memory = ⊥
IsOfPick plant states number left Read = ⊥
IsOfPick plant states number left Write = ⊥
