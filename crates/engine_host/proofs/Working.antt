-- What a watch is told of work outside the lock.
use Rattle.std.proofs.Common.{◌≡◌, ℕ, ℤ, Bool, true, false, true≢false, List, [], ◌∷◌, ◌++◌, Result, Ok, Err, IfOk, is_ok, ap, sym, ◌∙◌, subst}
use Rattle.std.specs.Prelude.{OnErr, Option, Some, drop, is_some, slice_get}
use Rattle.std.proofs.lemmas.Option.{same_Some}
use mathlib.Core.List.{IsPrefix}
use Rattle.plant_model.specs.Chosen.{firing_of}
use Rattle.plant_model.specs.Plant.{PlantDefinition}
use Rattle.step_core.specs.Job.{JobDefinition}
use Rattle.step_core.specs.Jobs.{AreJobsOf}
use Rattle.plant_core.specs.Events.{IsReturned}
use Rattle.plant_core.specs.View.{View, parts_in}
use Rattle.plant_core.specs.declared.events.FiredAs.{FiredAs}
use Rattle.plant_core.specs.declared.events.Happened.TheVariants.{Begin, Back}
use Rattle.plant_core.specs.declared.events.Returned.{Returned}
use Rattle.plant_core.specs.declared.refused.Refused.{Refused}
use Rattle.plant_core.specs.declared.refused.Refused.TheVariants.{Spent}
use Rattle.engine_host.specs.Held.{Held, IsMade}
use Rattle.engine_host.specs.History.{IsHistory, entry}
use Rattle.engine_host.specs.Told.{AreHandedBack, HasBegun, HasHandedBack}
use Rattle.engine_host.specs.Views.{front_in, is_used_up}
use Rattle.engine_host.specs.declared.entry.Entry.{Entry}
use Rattle.engine_host.proofs.Telling.{made, made_or_used_up}

-- a begin between two tellings
pub begun : (plant : PlantDefinition) (opening : View) (before first after : List Entry) (old new : Held) (pick : ℕ) (values : List ℤ) (answer : Result FiredAs Refused) (jobs : List JobDefinition) (b : Bool) → is_used_up opening old.view ≡ b
    → IsPrefix before first → first ≡ old.history → IsHistory plant opening first old.view
    → (is_used_up opening old.view ≡ false → IsMade plant old (Begin pick values answer) new) → (is_used_up opening old.view ≡ true → answer ≡ Err Spent) → (is_used_up opening old.view ≡ true → new ≡ old)
    → IfOk answer (λ fired. AreJobsOf plant (parts_in old.view) (firing_of fired.choice values) old.view.counts fired.choice.moves jobs) → OnErr answer (jobs ≡ [])
    → after ≡ new.history → IsHistory plant opening after new.view → HasBegun plant opening before pick values answer jobs after
begun plant opening before first after old new pick values (Ok fired) jobs false is begins told here making spent untouched of none again legal =
    (first, old.view, front_in new.view, begins, here, of, again ∙ ((making is).history ∙ ap (λ es. es ++ entry (Begin pick values (Ok fired)) (front_in new.view) ∷ []) (sym told)), (new.view, legal))
begun plant opening before first after old new pick values (Ok fired) jobs true is begins told here making spent untouched of none again legal =
    absurd (true≢false (ap (λ (r : Result FiredAs Refused). is_ok r) (spent is)))
begun plant opening before first after old new pick values (Err refused) jobs b is begins told here making spent untouched of none again legal =
    (none, made_or_used_up plant opening before first after old new (Begin pick values (Err refused)) (Err refused) b is begins told making spent untouched again legal)

-- a job that is handed in between two tellings
pub handed_back : (plant : PlantDefinition) (opening : View) (before first after : List Entry) (old new : Held) (job : JobDefinition)
    → IsPrefix before first → first ≡ old.history
    → ((returned : Returned) × ((answer : Result (Unit {0}) Refused) × IsReturned plant returned job × IsMade plant old (Back returned answer) new))
    → after ≡ new.history → IsHistory plant opening after new.view → HasHandedBack plant opening before job after
handed_back plant opening before first after old new job begins told it again legal =
    (it.0, it.1.0, it.1.1, made plant opening before first after old new (Back it.0 it.1.0) begins told it.1.2 again legal)

-- where the first of some jobs is handed in, and behind it the others, all are
pub one_more : (plant : PlantDefinition) (opening : View) (jobs : List JobDefinition) (job : JobDefinition) (before next after : List Entry) → Some job ≡ slice_get jobs 0
    → HasHandedBack plant opening before job next → AreHandedBack plant opening (drop 1 jobs) next after → AreHandedBack plant opening jobs before after
one_more plant opening [] job before next after first handed rest = absurd (true≢false (ap (λ (o : Option JobDefinition). is_some o) first))
one_more plant opening (j ∷ jobs) job before next after first handed rest = (next, subst (λ (k : JobDefinition). HasHandedBack plant opening before k next) (same_Some job j first) handed, rest)
