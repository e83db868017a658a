-- Jobs in hands: what is there if one is put or taken.
use Rattle.std.proofs.Common.{◌≡◌, ℕ, zero, suc, refl, sym, ◌∙◌, ap, List, [], ◌∷◌, drop, get_or, length, set, arith, length-set, get_or-set_same, get_or-set_other, ⊎_elim, Option, Some, None, IfSome}
use Rattle.std.specs.Prelude.{option_map, slice_get}
use Rattle.std.proofs.lemmas.Bool.{cases_eq, cases_lt}
use Rattle.std.proofs.lemmas.List.{get_or_past, map-set}
use Rattle.std.proofs.lemmas.Option.{none-some, same_Some}
use Rattle.plant_model.specs.Firing.{FiringDefinition}
use Rattle.plant_model.specs.Plant.{PlantDefinition}
use Rattle.step_executor.specs.Outstanding.{kept_in}
use Rattle.petri_atom.specs.Local.{Local}
use Rattle.plant_model.specs.Runs.{fold}
use Rattle.plant_model.specs.Step.{next, transfer}
use Rattle.plant_model.proofs.Stepping.{length-stepped}
use Rattle.step_core.specs.Job.{JobDefinition, job_of}
use Rattle.step_core.specs.declared.job.Job.{Job}
use Rattle.plant_core.specs.Hands.{AreOwnJobs, job_at}
use Rattle.plant_core.specs.Invariant.{FitsTogether}
use Rattle.plant_core.specs.View.{View}

-- if none is put, each is still one of its own atom
pub own-without : (jobs : List (Option JobDefinition)) (n : ℕ) → AreOwnJobs jobs → AreOwnJobs (set jobs n None)
own-without jobs n own atom job there =
    let none : Option JobDefinition = None in
    ⊎_elim
    (λ same. absurd (none-some job (sym (⊎_elim
    (λ within. get_or-set_same jobs n none none within)
    (λ past. get_or_past (set jobs n none) n none (omega (arith, length-set jobs n none, past)))
    (cases_lt n (length jobs))) ∙ ap (job_at (set jobs n none)) (sym same) ∙ there)))
    (λ other. own atom job (sym (get_or-set_other jobs n atom none none other) ∙ there))
    (cases_eq atom n)

-- and if one is put in its own atom's place
pub own-with : (jobs : List (Option JobDefinition)) (put : JobDefinition) → AreOwnJobs jobs → AreOwnJobs (set jobs put.atom (Some put))
own-with jobs put own atom job there =
    let some : Option JobDefinition = Some put in
    let none : Option JobDefinition = None in
    ⊎_elim
    (λ same. ⊎_elim
    (λ within. sym (ap (λ (j : JobDefinition). j.atom) (same_Some put job (sym (get_or-set_same jobs put.atom some none within) ∙ ap (job_at (set jobs put.atom some)) (sym same) ∙ there))) ∙ sym same)
    (λ past. absurd (none-some job (sym (get_or_past (set jobs put.atom some) put.atom none (omega (arith, length-set jobs put.atom some, past))) ∙ ap (job_at (set jobs put.atom some)) (sym same) ∙ there)))
    (cases_lt put.atom (length jobs)))
    (λ other. own atom job (sym (get_or-set_other jobs put.atom atom some none other) ∙ there))
    (cases_eq atom put.atom)

-- a job that was taken is of that atom
pub own-taken : (jobs : List (Option JobDefinition)) (atom : ℕ) (taken : Option Job) → AreOwnJobs jobs → option_map job_of taken ≡ job_at jobs atom → IfSome taken (λ job. (job_of job).atom ≡ atom)
own-taken jobs atom None own is = tt
own-taken jobs atom (Some job) own is = own atom (job_of job) (sym is)

-- what stands first, and the rest
pub first-rest : {X : Type 0} (xs : List X) (x : X) → slice_get xs 0 ≡ Some x → xs ≡ x ∷ drop 1 xs
first-rest [] x there = absurd (none-some x there)
first-rest (y ∷ ys) x there = ap (λ z. z ∷ ys) (same_Some y x there)

pub at-drop : {X : Type 0} (xs : List X) (k : ℕ) (x : X) → slice_get (drop k xs) 0 ≡ Some x → slice_get xs k ≡ Some x
at-drop xs zero x there = there
at-drop [] (suc k) x there = absurd (none-some x there)
at-drop (y ∷ ys) (suc k) x there = at-drop ys k x there

pub nothing-left : {X : Type 0} (xs : List X) → None ≡ slice_get xs 0 → length xs ≡ 0
nothing-left [] none = refl
nothing-left (y ∷ ys) none = absurd (none-some y none)

-- jobs as they are kept, if one is put
pub kept-put : (items : List (Option Job)) (n : ℕ) (job : Job) → n ≡ (job_of job).atom → kept_in (set items n (Some job)) ≡ set (kept_in items) (job_of job).atom (Some (job_of job))
kept-put items n job at =
    let some : Option JobDefinition = Some (job_of job) in
    map-set (λ (j : Option Job). option_map job_of j) items n (Some job) ∙ ap (λ (k : ℕ). set (kept_in items) k some) at

-- the job at a number is that of the item there
pub kept-at : (items : List (Option Job)) (n : ℕ) → option_map job_of (get_or items n None) ≡ job_at (kept_in items) n
kept-at [] n = refl
kept-at (o ∷ os) zero = refl
kept-at (o ∷ os) (suc n) = kept-at os n

-- ---- the present state of a plant

fold-long : (plant : PlantDefinition) (cs : List FiringDefinition) (start : List Local) → length (fold plant start cs) ≡ length start
fold-long plant [] start = refl
fold-long plant (c ∷ cs) start = fold-long plant cs (next plant start c) ∙ length-stepped plant.atoms c.moves (transfer plant start c) 0 start

-- it has a state for each atom
pub present-long : (plant : PlantDefinition) (v : View) (bodies : List (List ℕ)) → FitsTogether plant v bodies → length v.present ≡ length plant.atoms
present-long plant v bodies fits = ap length fits.leads ∙ fold-long plant v.tail v.acked ∙ fits.of_plant
