-- Jobs that are given out and come back.
use Rattle.std.proofs.Common.{◌≡◌, ◌≢◌, ℕ, zero, suc, refl, sym, ◌∙◌, ap, subst, List, [], ◌∷◌, get_or, set, drop, Contains, ⊎_elim, get_or-set_other}
use Rattle.std.specs.Prelude.{Option, Some, None, Result, Ok, Err, OnOk, OnErr, is_some, slice_get}
use Rattle.std.proofs.lemmas.Bool.{cases_eq, false≢true}
use Rattle.std.proofs.lemmas.Option.{none-some, same_Some}
use Rattle.plant_model.specs.Firing.{FiringDefinition, choice_in}
use Rattle.plant_model.specs.Rules.{fault_of}
use Rattle.plant_model.specs.declared.choice.Move.{Move}
use Rattle.plant_model.proofs.Membership.{here, here-or-later, later}
use Rattle.step_core.specs.Job.{JobDefinition}
use Rattle.step_core.specs.Jobs.{AreJobsOf}
use Rattle.step_core.specs.Sure.{IsSure}
use Rattle.step_executor.specs.Executing.{jobs_in, plant_in, states_in}
use Rattle.step_executor.specs.Outstanding.{jobs_after, parts_without, put_all}
use Rattle.step_executor.specs.declared.executor.Executor.{Executor}
use Rattle.step_executor.proofs.Standing.{kept-begun, parts-known}
use Rattle.durable_bench.specs.Away.{AreAllBack, AreAmong}

-- where no job is kept, each that is kept is among any
pub among-any : (kept : List (Option JobDefinition)) (jobs : List JobDefinition) → AreAllBack kept → AreAmong kept jobs
among-any kept jobs back n job there = absurd (false≢true (sym (back n) ∙ ap is_some there))

-- a job that is put is among those of which it is one
one-put : (kept : List (Option JobDefinition)) (k : ℕ) (job : JobDefinition) (all : List JobDefinition) → Contains all job → AreAmong kept all → AreAmong (set kept k (Some job)) all
one-put [] k job all at among n j there = among n j there
one-put (o ∷ os) zero job all at among zero j there = subst (Contains all) (same_Some job j there) at
one-put (o ∷ os) zero job all at among (suc n) j there = among (suc n) j there
one-put (o ∷ os) (suc k) job all at among zero j there = among zero j there
one-put (o ∷ os) (suc k) job all at among (suc n) j there = one-put os k job all at (λ i is. among (suc i) is) n j there

-- so are all jobs of moves
pub put-among : (moves : List Move) (made : List JobDefinition) (kept : List (Option JobDefinition)) (all : List JobDefinition) → ((job : JobDefinition) → Contains made job → Contains all job) → AreAmong kept all
    → AreAmong (put_all moves made kept) all
put-among [] made kept all within among = among
put-among (m ∷ ms) [] kept all within among = among
put-among (m ∷ ms) (job ∷ jobs) kept all within among =
    put-among ms jobs (set kept m.atom (Some job)) all (λ j more. within j (later job jobs j more)) (one-put kept m.atom job all (within job (here job jobs)) among)

-- where a choice begins with no atom away, the jobs that are kept are among those that are given out
pub begun-among : (run : Executor) (c : FiringDefinition) → IsSure (plant_in run) (parts_without (jobs_in run) (states_in run)) (choice_in c) → fault_of (plant_in run) ≡ None → (counts : List ℕ) (made : List JobDefinition)
    → AreJobsOf (plant_in run) (parts_without (jobs_in run) (states_in run)) c counts c.moves made → AreAllBack (jobs_in run)
    → AreAmong (jobs_after (plant_in run) (states_in run) counts c c.moves (jobs_in run)) made
begun-among run c known valid counts made are back =
    let here_are = subst (λ ps. AreJobsOf (plant_in run) ps c counts c.moves made) (parts-known run) are in
    subst (λ ks. AreAmong ks made) (kept-begun run c known valid counts made here_are (put_all c.moves made (jobs_in run)) c.moves refl refl)
    (put-among c.moves made (jobs_in run) made (λ job at. at) (among-any (jobs_in run) made back))

-- the jobs are the first one and the rest
with-first : (jobs : List JobDefinition) (job : JobDefinition) → Some job ≡ slice_get jobs 0 → jobs ≡ job ∷ drop 1 jobs
with-first [] job first = absurd (none-some job (sym first))
with-first (j ∷ js) job first = ap (λ (k : JobDefinition). k ∷ js) (sym (same_Some job j first))

-- nothing stands where it was taken away
nothing-left : (kept : List (Option JobDefinition)) (k : ℕ) → get_or (set kept k None) k None ≡ None
nothing-left [] k = refl
nothing-left (o ∷ os) zero = refl
nothing-left (o ∷ os) (suc k) = nothing-left os k

module _ (kept : List (Option JobDefinition)) (own : (n : ℕ) (job : JobDefinition) → get_or kept n None ≡ Some job → job.atom ≡ n) (jobs : List JobDefinition) (among : AreAmong kept jobs) (job : JobDefinition) (first : Some job ≡ slice_get jobs 0) where
  -- what is kept of other atoms than that of the first job is among the rest
  of-others : (n : ℕ) (j : JobDefinition) → get_or kept n None ≡ Some j → n ≢ job.atom → Contains (drop 1 jobs) j
  of-others n j there other = ⊎_elim
      (λ same. absurd (other (sym (own n j there) ∙ ap (λ (k : JobDefinition). k.atom) (sym same))))
      (λ more. more)
      (here-or-later job (drop 1 jobs) j (subst (λ js. Contains js j) (with-first jobs job first) (among n j there)))

  -- where the first job is taken back, what is kept is among the rest
  taken-among : (after : List (Option JobDefinition)) → after ≡ set kept job.atom None → AreAmong after (drop 1 jobs)
  taken-among after is = subst (λ ks. AreAmong ks (drop 1 jobs)) (sym is) fewer
    where
      fewer : AreAmong (set kept job.atom None) (drop 1 jobs)
      fewer n j there = ⊎_elim
          (λ same. absurd (none-some j (sym (nothing-left kept job.atom) ∙ ap (λ (k : ℕ). get_or (set kept job.atom None) k None) (sym same) ∙ there)))
          (λ other. of-others n j (sym (get_or-set_other kept job.atom n None None other) ∙ there) other)
          (cases_eq n job.atom)

  -- where it is not kept, nothing changes, and what is kept is among the rest
  refused-among : (after : List (Option JobDefinition)) → get_or kept job.atom None ≢ Some job → after ≡ kept → AreAmong after (drop 1 jobs)
  refused-among after gone is = subst (λ ks. AreAmong ks (drop 1 jobs)) (sym is) same_kept
    where
      same_kept : AreAmong kept (drop 1 jobs)
      same_kept n j there = ⊎_elim
          (λ same. absurd (gone (ap (λ (k : ℕ). get_or kept k None) (ap (λ (k : JobDefinition). k.atom) same ∙ own n j there) ∙ there ∙ ap Some (sym same))))
          (λ more. more)
          (here-or-later job (drop 1 jobs) j (subst (λ js. Contains js j) (with-first jobs job first) (among n j there)))

  -- whichever comes of it
  pub back-among : {E : Type 0} (answer : Result (Unit {0}) E) (after : List (Option JobDefinition)) → OnOk answer ((get_or kept job.atom None ≡ Some job) × (after ≡ set kept job.atom None))
      → OnErr answer ((get_or kept job.atom None ≢ Some job) × (after ≡ kept)) → AreAmong after (drop 1 jobs)
  back-among (Ok u) after taken refused = taken-among after taken.1
  back-among (Err e) after taken refused = refused-among after refused.0 refused.1
