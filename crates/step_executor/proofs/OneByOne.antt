-- How the jobs of a choice are kept, one after another.
use Rattle.std.proofs.Common.{◌≡◌, ℕ, zero, suc, ◌≤◌, refl, sym, ◌∙◌, ap, List, [], ◌∷◌, length, drop, set, arith}
use Rattle.std.specs.Prelude.{Option, Some, None, slice_get}
use Rattle.std.proofs.lemmas.Option.{none-some, same_Some}
use Rattle.petri_atom.specs.Local.{Local}
use Rattle.plant_model.specs.Firing.{FiringDefinition}
use Rattle.plant_model.specs.Plant.{PlantDefinition}
use Rattle.plant_model.specs.declared.choice.Move.{Move}
use Rattle.step_core.specs.Job.{JobDefinition}
use Rattle.step_executor.specs.Outstanding.{job_by, jobs_after, put_all}

-- there is nothing only past the end
pub past-of-none : {X : Type 0} (xs : List X) (k : ℕ) → slice_get xs k ≡ None → length xs ≤ k
past-of-none [] k none = omega arith
past-of-none (x ∷ xs) zero none = absurd (none-some x (sym none))
past-of-none (x ∷ xs) (suc k) none = let e : length xs ≤ k = past-of-none xs k none in omega (arith, e)

-- the job of the next move is put
pub put-next : (moves : List Move) (jobs : List JobDefinition) (k : ℕ) (m : Move) (job : JobDefinition) (kept : List (Option JobDefinition)) → slice_get moves k ≡ Some m → slice_get jobs k ≡ Some job
    → put_all (drop k moves) (drop k jobs) kept ≡ put_all (drop (suc k) moves) (drop (suc k) jobs) (set kept m.atom (Some job))
put-next [] jobs k m job kept its_move its_job = absurd (none-some m its_move)
put-next (x ∷ xs) [] k m job kept its_move its_job = absurd (none-some job its_job)
put-next (x ∷ xs) (y ∷ ys) zero m job kept its_move its_job =
    ap (λ (n : Move). put_all xs ys (set kept n.atom (Some y))) (same_Some x m its_move) ∙ ap (λ j. put_all xs ys (set kept m.atom (Some j))) (same_Some y job its_job)
put-next (x ∷ xs) (y ∷ ys) (suc k) m job kept its_move its_job = put-next xs ys k m job kept its_move its_job

-- what is put are the jobs of the moves
pub put-behind : (plant : PlantDefinition) (states : List Local) (counts : List ℕ) (c : FiringDefinition) (moves : List Move) (jobs : List JobDefinition) (kept : List (Option JobDefinition)) → length jobs ≡ length moves
    → ((place : ℕ) (m : Move) (job : JobDefinition) → slice_get moves place ≡ Some m → slice_get jobs place ≡ Some job → job_by plant states counts c m ≡ Some job)
    → put_all moves jobs kept ≡ jobs_after plant states counts c moves kept
put-behind plant states counts c [] jobs kept long each = refl
put-behind plant states counts c (m ∷ ms) [] kept long each = absurd (omega (arith, long))
put-behind plant states counts c (m ∷ ms) (job ∷ jobs) kept long each =
    put-behind plant states counts c ms jobs (set kept m.atom (Some job)) (omega (arith, long)) (λ place n j its_move its_job. each (suc place) n j its_move its_job) ∙
    ap (λ o. jobs_after plant states counts c ms (set kept m.atom o)) (sym (each 0 m job refl refl))
