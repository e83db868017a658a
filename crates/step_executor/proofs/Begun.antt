-- The jobs of a choice that begins.
use Rattle.std.proofs.Common.{◌≡◌, ℕ, ℤ, ◌<◌, ◌≤◌, refl, sym, ◌∙◌, ap, List, length, arith}
use Rattle.std.specs.Prelude.{Option, Some, None, slice_get, slice_index}
use Rattle.std.proofs.lemmas.Option.{same_Some, slice_get_within}
use Rattle.petri_atom.specs.Definition.{AtomDefinition}
use Rattle.petri_atom.specs.Local.{Local}
use Rattle.plant_model.specs.Firing.{FiringDefinition, choice_in}
use Rattle.plant_model.specs.Plant.{PlantDefinition}
use Rattle.plant_model.specs.Rules.{fault_of}
use Rattle.plant_model.specs.Step.{transfer}
use Rattle.plant_model.specs.declared.choice.Move.{Move}
use Rattle.plant_model.proofs.Membership.{entry-in}
use Rattle.step_core.specs.Job.{JobDefinition}
use Rattle.step_core.specs.Jobs.{AreJobsOf, IsJobOf}
use Rattle.step_core.specs.Sure.{IsSure}
use Rattle.step_executor.specs.Outstanding.{AreKept, job_by, jobs_after, put_all, whole_of}
use Rattle.step_executor.proofs.Going.{delivers, job-at, participant-state}
use Rattle.step_executor.proofs.OneByOne.{past-of-none, put-behind}

module _ (plant : PlantDefinition) (jobs : List (Option JobDefinition)) (parts : List (Option Local)) (kept : AreKept plant parts jobs) (c : FiringDefinition) (sure : IsSure plant parts (choice_in c)) (valid : fault_of plant ≡ None) (counts : List ℕ) (made : List JobDefinition) (are : AreJobsOf plant parts c counts c.moves made) where
  -- each is the job of its move
  pub job-is : (place : ℕ) (m : Move) (job : JobDefinition) → slice_get c.moves place ≡ Some m → slice_get made place ≡ Some job → job_by plant (whole_of jobs parts) counts c m ≡ Some job
  job-is place m job its_move its_job =
      let its : IsJobOf plant parts c counts m job = are.each place m job its_move its_job in
      let who = participant-state plant jobs parts kept c sure valid counts m (entry-in c.moves place m its_move) in
      let a : who.0 ≡ job.definition = same_Some who.0 job.definition (sym who.2 ∙ its.definition) in
      let s : who.1 ≡ job.state = same_Some who.1 job.state (same_Some (Some who.1) (Some job.state) (sym who.4 ∙ its.state)) in
      job-at plant jobs parts kept c sure valid counts m who.0 who.1 who.2 who.3 ∙
      ap (λ (b : AtomDefinition). Some (record { definition = b; atom = m.atom; count = slice_index counts m.atom; transition = m.transition; delivered = transfer plant (whole_of jobs parts) c m.atom; state = who.1 })) a ∙
      ap (λ (n : ℕ). Some (record { definition = job.definition; atom = n; count = slice_index counts m.atom; transition = m.transition; delivered = transfer plant (whole_of jobs parts) c m.atom; state = who.1 })) (sym its.atom) ∙
      ap (λ (n : ℕ). Some (record { definition = job.definition; atom = job.atom; count = n; transition = m.transition; delivered = transfer plant (whole_of jobs parts) c m.atom; state = who.1 })) (sym its.count) ∙
      ap (λ (n : ℕ). Some (record { definition = job.definition; atom = job.atom; count = job.count; transition = n; delivered = transfer plant (whole_of jobs parts) c m.atom; state = who.1 })) (sym its.transition) ∙
      ap (λ row. Some (record { definition = job.definition; atom = job.atom; count = job.count; transition = job.transition; delivered = row; state = who.1 })) (sym (delivers plant jobs parts kept c sure m.atom) ∙ sym its.delivered) ∙
      ap (λ (t : Local). Some (record { definition = job.definition; atom = job.atom; count = job.count; transition = job.transition; delivered = job.delivered; state = t })) s

  pub put-are : put_all c.moves made jobs ≡ jobs_after plant (whole_of jobs parts) counts c c.moves jobs
  put-are = put-behind plant (whole_of jobs parts) counts c c.moves made jobs are.as_many job-is

  -- what is delivered is told
  pub told-are : (rows : List (List (Option ℤ))) → ((place : ℕ) (job : JobDefinition) → slice_get made place ≡ Some job → slice_get rows place ≡ Some job.delivered)
      → (place : ℕ) (m : Move) → slice_get c.moves place ≡ Some m → slice_get rows place ≡ Some (transfer plant (whole_of jobs parts) c m.atom)
  told-are rows told place m its_move = each (slice_get made place) refl
    where
      each : (o : Option JobDefinition) → slice_get made place ≡ o → slice_get rows place ≡ Some (transfer plant (whole_of jobs parts) c m.atom)
      each None none = absurd (let past : length made ≤ place = past-of-none made place none in let within : place < length c.moves = slice_get_within c.moves place m its_move in omega (arith, past, within, are.as_many))
      each (Some job) its = told place job its ∙ ap Some ((are.each place m job its_move its).delivered ∙ delivers plant jobs parts kept c sure m.atom)
