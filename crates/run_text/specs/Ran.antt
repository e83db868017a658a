-- How a run by picks is answered.
use Rattle.std.specs.Prelude.{Option, Some, None, Result, Ok, Err}
use Rattle.run_text.specs.declared.fault.Refusal.{Refusal}
use Rattle.run_text.specs.declared.fault.TraceFault.{TraceFault}
use Rattle.run_text.specs.declared.fault.TraceFault.TheVariants.{Memory, Write, Read, Refused}

-- if neither the memory, a writer nor the source of the picks failed, P holds of the refusal that is answered, or of none
abbrev pub IfRan : {X : Type 0} → Result X TraceFault → (Option Refusal → Type 0) → Type 0
IfRan (Ok x) P = P None
IfRan (Err Memory) P = Unit {0}
IfRan (Err Write) P = Unit {0}
IfRan (Err Read) P = Unit {0}
IfRan (Err (Refused refusal)) P = P (Some refusal)

-- the same of what does not name the refusal
abbrev pub OnRan : {X : Type 0} → Result X TraceFault → Type 0 → Type 0
OnRan result P = IfRan result (λ refusal. P)
