-- What follows where a run went.
use Rattle.std.proofs.Common.{◌≡◌, ◌≢◌, ◌∙◌, subst, sym, List}
use Rattle.std.specs.Prelude.{Option, Some, None, Result, Ok, Err, IfOk, IfSome}
use Rattle.run_text.specs.Picks.{PickDefinition}
use Rattle.run_text.specs.Ran.{IfRan}
use Rattle.run_text.specs.declared.fault.Refusal.{Refusal}
use Rattle.run_text.specs.declared.fault.TraceFault.{TraceFault}
use Rattle.run_text.specs.declared.fault.TraceFault.TheVariants.{Memory, Write, Read, Refused}

-- what follows from what holds of the refusal, holds of it
pub ran-follows : {X : Type 0} (result : Result X TraceFault) (P Q : Option Refusal → Type 0) → ((refusal : Option Refusal) → P refusal → Q refusal) → IfRan result P → IfRan result Q
ran-follows (Ok x) P Q follows holds = follows None holds
ran-follows (Err Memory) P Q follows holds = tt
ran-follows (Err Write) P Q follows holds = tt
ran-follows (Err Read) P Q follows holds = tt
ran-follows (Err (Refused refusal)) P Q follows holds = follows (Some refusal) holds

-- the same of two things that hold
pub ran-both : {X : Type 0} (result : Result X TraceFault) (P Q R : Option Refusal → Type 0) → ((refusal : Option Refusal) → P refusal → Q refusal → R refusal)
    → IfRan result P → IfRan result Q → IfRan result R
ran-both (Ok x) P Q R follows first second = follows None first second
ran-both (Err Memory) P Q R follows first second = tt
ran-both (Err Write) P Q R follows first second = tt
ran-both (Err Read) P Q R follows first second = tt
ran-both (Err (Refused refusal)) P Q R follows first second = follows (Some refusal) first second

-- what follows from what holds of the value, holds of it
pub ok-follows : {X : Type 0} (result : Result X TraceFault) (P Q : X → Type 0) → ((x : X) → P x → Q x) → IfOk result P → IfOk result Q
ok-follows (Ok x) P Q follows holds = follows x holds
ok-follows (Err fault) P Q follows holds = tt

-- what holds of picks that may be known, holds of those that are
pub if-these : {known : Option (List PickDefinition)} {picks : List PickDefinition} (P : List PickDefinition → Type 0) → known ≡ Some picks → IfSome known P → P picks
if-these P is holds = subst (λ known. IfSome known P) is holds

-- two things that hold of picks that may be known
pub known-both : (known : Option (List PickDefinition)) (P Q R : List PickDefinition → Type 0) → ((picks : List PickDefinition) → P picks → Q picks → R picks)
    → IfSome known P → IfSome known Q → IfSome known R
known-both None P Q R follows first second = tt
known-both (Some picks) P Q R follows first second = follows picks first second

-- what holds whatever the picks are
pub if-any : (known : Option (List PickDefinition)) (P : Type 0) → P → IfSome known (λ picks. P)
if-any None P holds = tt
if-any (Some picks) P holds = holds

-- what holds of the refusal as runs ended holds of the one that is answered, unless the writer failed
pub ran-unless : {X : Type 0} (ran result : Result X TraceFault) (P : Option Refusal → Type 0) → (result ≢ Err Write → result ≡ ran) → IfRan ran P → IfRan result P
ran-unless ran (Ok x) P same holds = subst (λ r. IfRan r P) (sym (same (λ is. cc))) holds
ran-unless ran (Err Memory) P same holds = tt
ran-unless ran (Err Write) P same holds = tt
ran-unless ran (Err Read) P same holds = tt
ran-unless ran (Err (Refused refusal)) P same holds = subst (λ r. IfRan r P) (sym (same (λ is. cc))) holds

-- and what holds of the value holds of the one that is answered
pub ok-unless : {X : Type 0} (ran result : Result X TraceFault) (P : X → Type 0) → (result ≢ Err Write → result ≡ ran) → IfOk ran P → IfOk result P
ok-unless ran (Ok x) P same holds = subst (λ r. IfOk r P) (sym (same (λ is. cc))) holds
ok-unless ran (Err fault) P same holds = tt

-- where the answer is that memory is lacking, runs ended so
pub memory-unless : {X : Type 0} (ran result : Result X TraceFault) → (result ≢ Err Write → result ≡ ran) → result ≡ Err Memory → ran ≡ Err Memory
memory-unless ran result same is = sym (same (λ other. cc)) ∙ is
