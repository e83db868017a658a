-- The jobs that atoms have where the participants of a choice go away.
use Rattle.std.proofs.Common.{◌≡◌, ◌⊎◌, inl, inr, ℕ, ◌<◌, ◌≤◌, ◌==◌, refl, sym, ◌∙◌, ap, List, [], ◌∷◌, length, get_or, set, Contains, arith, true, ◌||◌, ⊎_elim, length-set, get_or-set_same, get_or-set_other}
use Rattle.std.specs.Prelude.{Option, Some, None, is_some}
use Rattle.std.proofs.lemmas.Bool.{cases_eq, cases_lt, eq-eqb, ne_eqb}
use Rattle.std.proofs.lemmas.List.{get_or_past}
use Rattle.std.proofs.lemmas.Option.{none-some}
use Rattle.std.proofs.Math.Bool.{or-false, or-true, or_assoc}
use Rattle.petri_atom.specs.Local.{Local}
use Rattle.plant_model.specs.Firing.{FiringDefinition}
use Rattle.plant_model.specs.Plant.{PlantDefinition}
use Rattle.plant_model.specs.declared.choice.Move.{Move}
use Rattle.plant_model.proofs.Membership.{here, later}
use Rattle.step_core.specs.Job.{JobDefinition}
use Rattle.step_core.specs.Sure.{has_move}
use Rattle.step_executor.specs.Outstanding.{is_out, job_by, jobs_after}

-- a job that is put at a number is there, where there is such a place, and at no other
pub put-out : (jobs : List (Option JobDefinition)) (k : ℕ) (o : Option JobDefinition) (n : ℕ) → k < length jobs → is_some o ≡ true → is_out (set jobs k o) n ≡ (is_out jobs n || (k == n))
put-out jobs k o n within there = ⊎_elim
    (λ same. ap (is_out (set jobs k o)) same ∙ ap is_some (get_or-set_same jobs k o None within) ∙ there ∙ sym (ap (λ b. is_out jobs n || b) (eq-eqb k n (sym same)) ∙ or-true (is_out jobs n)))
    (λ other. ap is_some (get_or-set_other jobs k n o None other) ∙ sym (ap (λ b. is_out jobs n || b) (ne_eqb k n (λ eq. other (sym eq))) ∙ or-false (is_out jobs n)))
    (cases_eq n k)

module _ (plant : PlantDefinition) (states : List Local) (counts : List ℕ) (c : FiringDefinition) where
  abbrev behind : List Move → List (Option JobDefinition) → List (Option JobDefinition)
  behind = jobs_after plant states counts c

  pub length-behind : (ms : List Move) (jobs : List (Option JobDefinition)) → length (behind ms jobs) ≡ length jobs
  length-behind [] jobs = refl
  length-behind (m ∷ ms) jobs = length-behind ms (set jobs m.atom (job_by plant states counts c m)) ∙ length-set jobs m.atom (job_by plant states counts c m)

  -- each participant has a job, and who had one has it still
  pub out-behind : (ms : List Move) (jobs : List (Option JobDefinition)) → ((m : Move) → Contains ms m → (m.atom < length jobs) × (is_some (job_by plant states counts c m) ≡ true)) → (n : ℕ) → is_out (behind ms jobs) n ≡ (is_out jobs n || has_move ms n)
  out-behind [] jobs each n = sym (or-false (is_out jobs n))
  out-behind (m ∷ ms) jobs each n =
      let first = each m (here m ms) in
      let next : List (Option JobDefinition) = set jobs m.atom (job_by plant states counts c m) in
      out-behind ms next (λ k at. (
        (let e : length next ≡ length jobs = length-set jobs m.atom (job_by plant states counts c m) in omega (arith, e, (each k (later m ms k at)).0)),
        (each k (later m ms k at)).1,
      )) n ∙
      ap (λ b. b || has_move ms n) (put-out jobs m.atom (job_by plant states counts c m) n first.0 first.1) ∙
      or_assoc (is_out jobs n) (m.atom == n) (has_move ms n)

  -- a job is that of a participant, or it was there before
  pub from-behind : (ms : List Move) (jobs : List (Option JobDefinition)) (n : ℕ) (job : JobDefinition) → get_or (behind ms jobs) n None ≡ Some job
      → ((m : Move) × Contains ms m × (m.atom ≡ n) × (job_by plant states counts c m ≡ Some job)) ⊎ (get_or jobs n None ≡ Some job)
  from-behind [] jobs n job there = inr there
  from-behind (m ∷ ms) jobs n job there = ⊎_elim
      (λ found. inl (found.0, later m ms found.0 found.1, found.2, found.3))
      (λ is. ⊎_elim
      (λ same. ⊎_elim
      (λ within. inl (m, here m ms, sym same, sym (get_or-set_same jobs m.atom (job_by plant states counts c m) None within) ∙ sym (ap (λ k. get_or (set jobs m.atom (job_by plant states counts c m)) k None) same) ∙ is))
      (λ past. absurd (none-there m jobs n job same past is))
      (cases_lt m.atom (length jobs)))
      (λ other. inr (sym (get_or-set_other jobs m.atom n (job_by plant states counts c m) None other) ∙ is))
      (cases_eq n m.atom))
      (from-behind ms (set jobs m.atom (job_by plant states counts c m)) n job there)
    where
      none-there : (m : Move) (jobs : List (Option JobDefinition)) (n : ℕ) (job : JobDefinition) → n ≡ m.atom → length jobs ≤ m.atom → get_or (set jobs m.atom (job_by plant states counts c m)) n None ≡ Some job → ⊥
      none-there m jobs n job same past is =
          let e : length (set jobs m.atom (job_by plant states counts c m)) ≡ length jobs = length-set jobs m.atom (job_by plant states counts c m) in
          none-some job (sym (get_or_past (set jobs m.atom (job_by plant states counts c m)) n None (omega (arith, e, past, same))) ∙ is)
