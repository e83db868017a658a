-- The atoms are brought to where the records lead them, one after another.
use Rattle.std.proofs.Common.{◌≡◌, ◌⊎◌, ℕ, ◌+◌, ◌<◌, ◌≤◌, List, length, drop, replicate, set, slice_get, Some, None, Ok, refl, sym, ◌∙◌, ap, subst, arith, length-set, get_or-set_same, get_or-set_other}
use Rattle.std.proofs.lemmas.Bool.{cases_lt, cases_eq}
use Rattle.std.proofs.lemmas.List.{drop_all, get_or-replicate, get_or_past, length-replicate}
use Rattle.std.proofs.lemmas.Option.{slice_get_within}
use Rattle.std.proofs.Common.{inl, inr}
use Rattle.petri_atom.specs.Definition.{AtomDefinition, Fits}
use Rattle.petri_atom.specs.Local.{Local}
use Rattle.record_replay.specs.Records.{count_of}
use Rattle.record_replay.specs.Replay.{Position}
use Rattle.plant_model.specs.Fitting.{IsOf, AllFit}
use Rattle.plant_model.specs.Plant.{PlantDefinition}
use Rattle.plant_model.specs.Rules.{first_of, first_fault_in}
use Rattle.plant_model.specs.declared.limits.TheConstants.{MAX_ATOMS}
use Rattle.plant_image.specs.Contents.{Contents, replayed, states_of, counts_of}
use Rattle.plant_image.specs.Faults.{replay_fault, fault_of_replay}
use Rattle.plant_image.specs.Reading.{IsLed, contents_in}
use Rattle.plant_image.specs.declared.standing.Standing.{Standing}
use Rattle.plant_image.proofs.ByAtoms.{same_lists, get_set_same, get_set_other, states_length, counts_past, state_at, count_at}
use Rattle.plant_image.proofs.FirstFault.{told_at, none_first}

-- The whole is the answer for the rest, and the atoms so far are where the records lead them.
pub record SoFar (plant : PlantDefinition) (c : Contents) (n : ℕ) (states : List Local) (counts : List ℕ) : Type 0 where
  pub rest : first_fault_in (replay_fault c) 0 plant.atoms ≡ first_fault_in (replay_fault c) n (drop n plant.atoms)
  pub of_plant : IsOf plant states
  pub fits : AllFit plant states
  pub states_are : (k : ℕ) → k < n → slice_get states k ≡ slice_get (states_of plant c) k
  pub long : length counts ≡ MAX_ATOMS
  pub counts_are : (k : ℕ) → k < n → count_of counts k ≡ count_of (counts_of plant c) k
  pub none : (k : ℕ) → n ≤ k → count_of counts k ≡ 0

-- At first none are, whatever their states are.
pub none_so_far : (plant : PlantDefinition) (c : Contents) (states : List Local) → IsOf plant states → AllFit plant states → SoFar plant c 0 states (replicate MAX_ATOMS 0)
none_so_far plant c states of_plant fits = record {
  rest = refl;
  of_plant = of_plant;
  fits = fits;
  states_are = λ k below. absurd (omega arith);
  long = refl;
  counts_are = λ k below. absurd (omega arith);
  none = λ k past. none_at k (cases_lt k MAX_ATOMS);
}
  where
    none_at : (k : ℕ) → (k < MAX_ATOMS) ⊎ (MAX_ATOMS ≤ k) → count_of (replicate MAX_ATOMS 0) k ≡ 0
    none_at k (inl below) = get_or-replicate MAX_ATOMS k 0 0 below
    none_at k (inr past) = get_or_past (replicate MAX_ATOMS 0) k 0 (omega (arith, past, length-replicate {A = ℕ} MAX_ATOMS 0))

module _ (plant : PlantDefinition) (c : Contents) (n : ℕ) (states : List Local) (counts : List ℕ) (far : SoFar plant c n states counts) where
  -- one atom more
  module _ (a : AtomDefinition) (at : slice_get plant.atoms n ≡ Some a) where
    pub told_of_atom : first_fault_in (replay_fault c) 0 plant.atoms ≡ first_of (fault_of_replay n (replayed c n a)) (first_fault_in (replay_fault c) (n + 1) (drop (n + 1) plant.atoms))
    told_of_atom = far.rest ∙ told_at (replay_fault c) plant.atoms n a at

    module _ (few : length plant.atoms ≤ MAX_ATOMS) (p : Position) (ends : replayed c n a ≡ Ok p) (fits : Fits a p.state) where
      within : n < length plant.atoms
      within = slice_get_within plant.atoms n a at

      in_states : n < length states
      in_states = omega (arith, within, far.of_plant)

      in_counts : n < length counts
      in_counts = omega (arith, within, far.long, few)

      still_fits : AllFit plant (set states n p.state)
      still_fits k b s b_at s_at = elim (cases_eq k n) [
        | inl same ↦
            let here : slice_get plant.atoms n ≡ Some b = ap (slice_get plant.atoms) (sym same) ∙ b_at in
            let there : slice_get (set states n p.state) n ≡ Some s = ap (slice_get (set states n p.state)) (sym same) ∙ s_at in
            let atoms : Some a ≡ Some b = sym at ∙ here in
            let atom : a ≡ b = cc in
            let found : Some p.state ≡ Some s = sym (get_set_same states n p.state in_states) ∙ there in
            let state : p.state ≡ s = cc in
            subst (λ (x : Local). Fits b x) state (subst (λ (x : AtomDefinition). Fits x p.state) atom fits)
        | inr other ↦ far.fits k b s b_at (sym (get_set_other states n k p.state other) ∙ s_at)
      ]

      states_now : (k : ℕ) → k < n + 1 → slice_get (set states n p.state) k ≡ slice_get (states_of plant c) k
      states_now k below = elim (cases_eq k n) [
        | inl same ↦ ap (slice_get (set states n p.state)) same ∙ get_set_same states n p.state in_states ∙ sym (state_at c plant n a p at ends) ∙ ap (slice_get (states_of plant c)) (sym same)
        | inr other ↦ get_set_other states n k p.state other ∙ far.states_are k (omega (arith, other, below))
      ]

      counts_now : (k : ℕ) → k < n + 1 → count_of (set counts n p.count) k ≡ count_of (counts_of plant c) k
      counts_now k below = elim (cases_eq k n) [
        | inl same ↦ ap (count_of (set counts n p.count)) same ∙ get_or-set_same counts n p.count 0 in_counts ∙ sym (count_at c plant n a p at ends) ∙ ap (count_of (counts_of plant c)) (sym same)
        | inr other ↦ get_or-set_other counts n k p.count 0 other ∙ far.counts_are k (omega (arith, other, below))
      ]

      pub so_far_more : SoFar plant c (n + 1) (set states n p.state) (set counts n p.count)
      so_far_more = record {
        rest = none_first (fault_of_replay n (replayed c n a)) _ _ told_of_atom (ap (fault_of_replay n) ends);
        of_plant = length-set states n p.state ∙ far.of_plant;
        fits = still_fits;
        states_are = states_now;
        long = length-set counts n p.count ∙ far.long;
        counts_are = counts_now;
        none = λ k past. get_or-set_other counts n k p.count 0 (λ same. omega (arith, same, past)) ∙ far.none k (omega (arith, past));
      }

  -- all of them
  module _ (all : n ≡ length plant.atoms) where
    states_all : states ≡ states_of plant c
    states_all = same_lists states (states_of plant c) (omega (arith, far.of_plant, states_length c plant)) (λ i below. far.states_are i (omega (arith, below, far.of_plant, all)))

    counts_all : (k : ℕ) → count_of counts k ≡ count_of (counts_of plant c) k
    counts_all k = elim (cases_lt k n) [
      | inl below ↦ far.counts_are k below
      | inr past ↦ far.none k past ∙ sym (counts_past c plant k (omega (arith, past, all)))
    ]

    -- so nothing is told, and this is what stands
    pub ends_told : (standing : Standing) → contents_in standing.held ≡ c → standing.states ≡ states → standing.counts ≡ counts → (first_fault_in (replay_fault c) 0 plant.atoms ≡ None) × IsLed plant c standing
    ends_told standing contents its_states its_counts = (
      far.rest ∙ ap (first_fault_in (replay_fault c) n) (drop_all n plant.atoms (omega (arith, all))),
      record {
        contents = contents;
        states = its_states ∙ states_all;
        of_plant = subst (IsOf plant) (sym its_states) far.of_plant;
        fits = subst (AllFit plant) (sym its_states) far.fits;
        counts = λ atom. ap (λ (ns : List ℕ). count_of ns atom) its_counts ∙ counts_all atom;
      },
    )
