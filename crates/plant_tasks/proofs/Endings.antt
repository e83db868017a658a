-- How a task ends whose runs ended so.
use Rattle.std.proofs.Common.{◌≡◌, refl, subst, Bool, true, false, List, Option, Some, None, Result, Ok, Err}
use Rattle.std.specs.Prelude.{IfErr, IfOk, IfSome, option_map}
use Rattle.run_text.specs.Picks.{PickDefinition}
use Rattle.run_text.specs.Ran.{IfRan}
use Rattle.run_text.specs.declared.fault.Refusal.{Refusal}
use Rattle.run_text.specs.declared.fault.TraceFault.{TraceFault}
use Rattle.run_text.specs.declared.fault.TraceFault.TheVariants as trace
use Rattle.plant_tasks.specs.Ending.{IfDone, IfEnded, IfRead, IsOfWatched, IsSilent, ended_if, ending_by}
use Rattle.plant_tasks.specs.declared.ending.PlantEnding.{PlantEnding}

-- where a run was made, what holds of no refusal holds, whether it came to what must not hold or did not
done_if : (held : Bool) (P : Option Refusal → Type 0) → P None → IfDone (ended_if held) P
done_if true P holds = holds
done_if false P holds = holds

-- what holds of the refusal of a run holds of that of its task
pub ran_done : {X : Type 0} (comes : X → Bool) (ran : Result X TraceFault) (P : Option Refusal → Type 0) → IfRan ran P → IfDone (ending_by comes ran) P
ran_done comes (Ok x) P holds = done_if (comes x) P holds
ran_done comes (Err trace.Memory) P holds = tt
ran_done comes (Err trace.Write) P holds = tt
ran_done comes (Err trace.Read) P holds = tt
ran_done comes (Err (trace.Refused refusal)) P holds = holds

-- the same of what is made of the picks that are known
pub done_of : {X B : Type 0} (comes : X → Bool) (ran : Result X TraceFault) (made : List PickDefinition → B) (known : Option (List PickDefinition)) (P : Option Refusal → B → Type 0)
    → IfRan ran (λ refusal. IfSome known (λ picks. P refusal (made picks))) → IfDone (ending_by comes ran) (λ refusal. IfSome (option_map made known) (P refusal))
done_of comes ran made None P holds = ran_done comes ran (λ refusal. Unit {0}) holds
done_of comes ran made (Some picks) P holds = ran_done comes ran (λ refusal. P refusal (made picks)) holds

-- a task ends by what must not hold where its run came to that
ended_as : (held : Bool) → IfEnded (ended_if held) (λ said. said ≡ held)
ended_as true = refl
ended_as false = refl

-- nothing has to hold
ended_so : (held : Bool) → IfEnded (ended_if held) (λ said. Unit {0})
ended_so true = tt
ended_so false = tt

-- where the run ends is known
pub held_as : {X : Type 0} (comes : X → Bool) (ran : Result X TraceFault) (end : X) → IfOk ran (λ x. x ≡ end) → IfEnded (ending_by comes ran) (λ held. held ≡ comes end)
held_as comes (Ok x) end same = subst (λ other. IfEnded (ended_if (comes x)) (λ held. held ≡ comes other)) same (ended_as (comes x))
held_as comes (Err trace.Memory) end same = tt
held_as comes (Err trace.Write) end same = tt
held_as comes (Err trace.Read) end same = tt
held_as comes (Err (trace.Refused refusal)) end same = tt

-- the same as far as the picks are known
pub held_of : {X : Type 0} (comes : X → Bool) (ran : Result X TraceFault) (known : Option (List PickDefinition)) (reach : List PickDefinition → X)
    → IfOk ran (λ x. IfSome known (λ picks. x ≡ reach picks)) → IfEnded (ending_by comes ran) (λ held. IfSome (option_map (λ picks. comes (reach picks)) known) (λ first. held ≡ first))
held_of comes ran (Some picks) reach same = held_as comes ran (reach picks) same
held_of comes (Ok x) None reach same = ended_so (comes x)
held_of comes (Err trace.Memory) None reach same = tt
held_of comes (Err trace.Write) None reach same = tt
held_of comes (Err trace.Read) None reach same = tt
held_of comes (Err (trace.Refused refusal)) None reach same = tt

-- the words by which a run was made were read
read_if : (held : Bool) (bad : Option PlantEnding) → None ≡ bad → IfRead (ended_if held) (λ told. told ≡ bad)
read_if true bad none = none
read_if false bad none = none

pub read_of : {X : Type 0} (comes : X → Bool) (ran : Result X TraceFault) (bad : Option PlantEnding) → None ≡ bad → IfRead (ending_by comes ran) (λ told. told ≡ bad)
read_of comes (Ok x) bad none = read_if (comes x) bad none
read_of comes (Err trace.Memory) bad none = tt
read_of comes (Err trace.Write) bad none = tt
read_of comes (Err trace.Read) bad none = tt
read_of comes (Err (trace.Refused refusal)) bad none = none

-- a run that ends early, or by what must not hold, is a task that was not done
of_task_if : (held : Bool) → IfErr (ended_if held) IsOfWatched
of_task_if true = tt
of_task_if false = tt

pub of_task : {X : Type 0} (comes : X → Bool) (ran : Result X TraceFault) → IfErr (ending_by comes ran) IsOfWatched
of_task comes (Ok x) = of_task_if (comes x)
of_task comes (Err trace.Memory) = tt
of_task comes (Err trace.Write) = tt
of_task comes (Err trace.Read) = tt
of_task comes (Err (trace.Refused refusal)) = tt

-- where its ending is silent, what stays as it is for want of memory stays as it is
quiet_if : (P : Type 0) (held : Bool) → IfErr (ended_if held) (λ ending. IsSilent ending → P)
quiet_if P true = λ of_silent. absurd of_silent
quiet_if P false = tt

pub quiet : {W X : Type 0} (comes : X → Bool) (ran : Result X TraceFault) (before after : W) → (ran ≡ Err trace.Memory → after ≡ before)
    → IfErr (ending_by comes ran) (λ ending. IsSilent ending → after ≡ before)
quiet comes (Ok x) before after silent = quiet_if (after ≡ before) (comes x)
quiet comes (Err trace.Memory) before after silent = λ of_silent. silent refl
quiet comes (Err trace.Write) before after silent = λ of_silent. absurd of_silent
quiet comes (Err trace.Read) before after silent = λ of_silent. absurd of_silent
quiet comes (Err (trace.Refused refusal)) before after silent = λ of_silent. absurd of_silent
