-- What the counts that were read tell.
use Rattle.std.proofs.Common.{◌≡◌, ℕ, ◌+◌, List, slice_get, Some, None, Result, Ok, Err, refl, sym, ◌∙◌, ap, arith}
use Rattle.petri_atom.specs.Definition.{AtomDefinition}
use Rattle.record_replay.specs.Records.{count_of}
use Rattle.record_replay.specs.Replay.{Position}
use Rattle.record_replay.specs.declared.fault.ReplayFault.{ReplayFault}
use Rattle.plant_model.specs.Plant.{PlantDefinition}
use Rattle.plant_model.specs.Rules.{first_fault_in}
use Rattle.plant_image.specs.Contents.{Contents, replayed, counts_of}
use Rattle.plant_image.specs.Faults.{count_fault, ends_unaccounted, fault_of_replay, fault_where, is_unaccounted, replay_fault}
use Rattle.plant_image.specs.declared.fault.ImageFault.TheVariants.{Gap}
use Rattle.plant_image.proofs.ByAtoms.{told_none_at, told_same, count_at}

-- a replay of which nothing is told leads somewhere
pub replay_leads : (atom : ℕ) (r : Result Position ReplayFault) → fault_of_replay atom r ≡ None → (p : Position) × (r ≡ Ok p)
replay_leads atom (Ok p) none = (p, refl)
replay_leads atom (Err fault) none = absurd (let none = none in cc)

module _ (plant : PlantDefinition) (c : Contents) (none : first_fault_in (replay_fault c) 0 plant.atoms ≡ None) where
  -- so each atom is brought somewhere
  pub leads_at : (i : ℕ) (a : AtomDefinition) → slice_get plant.atoms i ≡ Some a → (p : Position) × (replayed c i a ≡ Ok p)
  leads_at i a at = replay_leads i (replayed c i a) (told_none_at (replay_fault c) plant.atoms 0 i i a none at (omega arith))

  -- and the counts that were read tell the same as the replay
  pub counts_told : (counts : List ℕ) → ((k : ℕ) → count_of counts k ≡ count_of (counts_of plant c) k)
      → first_fault_in (λ atom (a : AtomDefinition). fault_where (is_unaccounted c atom (count_of counts atom)) (Gap atom)) 0 plant.atoms ≡ first_fault_in (count_fault c) 0 plant.atoms
  counts_told counts same = told_same (λ atom (a : AtomDefinition). fault_where (is_unaccounted c atom (count_of counts atom)) (Gap atom)) (count_fault c) plant.atoms 0 each
    where
      each : (j : ℕ) (a : AtomDefinition) → slice_get plant.atoms j ≡ Some a → fault_where (is_unaccounted c (0 + j) (count_of counts (0 + j))) (Gap (0 + j)) ≡ count_fault c (0 + j) a
      each j a at =
          let here : 0 + j ≡ j = omega arith in
          let leads = leads_at j a at in
          let count : count_of counts j ≡ leads.0.count = same j ∙ count_at c plant j a leads.0 at leads.1 in
          ap (λ (k : ℕ). fault_where (is_unaccounted c k (count_of counts k)) (Gap k)) here
          ∙ ap (λ (n : ℕ). fault_where (is_unaccounted c j n) (Gap j)) count
          ∙ ap (λ (r : Result Position ReplayFault). fault_where (ends_unaccounted c j r) (Gap j)) (sym leads.1)
          ∙ ap (λ (k : ℕ). count_fault c k a) (sym here)
