-- A judgement of which some connectors are left to settle: one of them is settled, and all of them.
use Rattle.std.proofs.Common.{◌≡◌, ℕ, ◌==◌, ◌≤◌, refl, sym, ◌∙◌, ap, List, length, map, Contains, Bool, true, false, not, ◌&&◌, ⊎_elim}
use Rattle.std.specs.Prelude.{slice_index_or}
use Rattle.std.specs.FinSet.{FinSet, contains}
use Rattle.std.specs.Ordering.{nat_cmp}
use Rattle.std.specs.Option.{option_map_or}
use Rattle.std.proofs.lemmas.Bool.{cases_Bool, cases_eq, cases_lt, ne_eqb}
use Rattle.std.proofs.lemmas.Option.{slice_get_past}
use Rattle.petri_atom.specs.Local.{Local}
use Rattle.priority_filter.specs.Active.{may_be_marked}
use Rattle.priority_filter.specs.Decided.{is_overruled}
use Rattle.priority_filter.specs.Members.{has_bit}
use Rattle.priority_filter.specs.declared.rule.Rule.TheVariants.{UnderAt}
use Rattle.priority_filter.specs.declared.rule.Side.{Side}
use Rattle.priority_filter.specs.declared.seen.At.{At}
use Rattle.priority_filter.proofs.Counting.{same-counted}
use Rattle.plant_model.specs.Choice.{Interaction, is_possible_at, named}
use Rattle.plant_model.specs.ConnectorRows.{is_of_connector}
use Rattle.plant_model.specs.Plant.{PlantDefinition}
use Rattle.plant_model.specs.System.{interactions_in, plant_of}
use Rattle.plant_model.specs.declared.system.System.{System}
use Rattle.step_core.specs.Judgement.{IsJudgement}
use Rattle.step_core.specs.Possible.{ArePossible}
use Rattle.step_core.specs.Settling.{AreBounded, IsSettledBut, but}
use Rattle.step_core.specs.Standing.{IsStanding, is_always_overruled, is_kept_always}
use Rattle.step_core.specs.Weights.{AreSums, weight_of}
use Rattle.step_core.specs.declared.judgement.Judgement.{Judgement}
use Rattle.step_core.specs.declared.weights.Weights.{Weights}
use Rattle.step_core.proofs.BoundedWeights.{weight-same}
use Rattle.step_core.proofs.Openness.{none-possible}
use Rattle.step_core.proofs.Ranked.{connector-of, of-no-other}
use Rattle.step_core.proofs.Unsettled.{allowed-anew}

module _ (s : System) (states : List Local) (stale unweighed : ℕ → Bool) (j : Judgement) (settled : IsSettledBut (plant_of s) (interactions_in s) s.ranks states stale unweighed j) where
  abbrev plant : PlantDefinition
  plant = plant_of s

  abbrev all : List Interaction
  all = interactions_in s

  -- more may be left to settle
  pub fewer : (more heavier : ℕ → Bool) → ((k : ℕ) → more k ≡ false → stale k ≡ false) → ((k : ℕ) → heavier k ≡ false → unweighed k ≡ false) → IsSettledBut plant all s.ranks states more heavier j
  fewer more heavier clean light = record {
    offered = settled.offered;
    movable = settled.movable;
    counted = settled.counted;
    leaves = settled.leaves;
    seen = settled.seen;
    possible = λ n k its out. settled.possible n k its (clean k out);
    past = settled.past;
    standing = settled.standing;
    kept = settled.kept;
    weights = λ k out. settled.weights k (light k out);
    sums = settled.sums;
    bounded = settled.bounded;
  }

  -- what is kept is right for what is possible now, of the connectors that are not affected
  pub kept-still : (affected : ℕ) (possible : FinSet nat_cmp)
      → ((n k : ℕ) → is_of_connector all k n ≡ true → has_bit affected k ≡ false → contains possible n ≡ contains j.possible n)
      → ((n k : ℕ) → is_of_connector all k n ≡ true → has_bit affected k ≡ false → contains possible n ≡ true → is_always_overruled plant all (contains possible) n ≡ is_always_overruled plant all (contains j.possible) n)
      → (n k : ℕ) → is_of_connector all k n ≡ true → has_bit affected k ≡ false → contains j.kept n ≡ is_kept_always plant all (contains possible) n
  kept-still affected possible same told n k its out =
      settled.kept n ∙ ap (λ b. b && not (is_always_overruled plant all (contains j.possible) n)) (sym (same n k its out)) ∙
      ⊎_elim
      (λ can. ap (λ b. contains possible n && not b) (sym (told n k its out can)))
      (λ cannot. ap (λ b. b && not (is_always_overruled plant all (contains j.possible) n)) cannot ∙ sym (ap (λ b. b && not (is_always_overruled plant all (contains possible) n)) cannot))
      (cases_Bool (contains possible n))

  pub kept-past : (n : ℕ) → length all ≤ n → contains j.kept n ≡ false
  kept-past n past = settled.kept n ∙ ap (λ b. b && not (is_always_overruled plant all (contains j.possible) n)) (settled.past n past)

  -- one connector is settled
  module _ (connector : ℕ) (possible kept : FinSet nat_cmp) (weights : Weights)
      (judged : (n : ℕ) → is_of_connector all connector n ≡ true → contains possible n ≡ is_possible_at plant.atoms plant.wires states all n)
      (others : (n : ℕ) → is_of_connector all connector n ≡ false → contains possible n ≡ contains j.possible n)
      (stands : IsStanding plant all s.ranks (contains possible) j.standing)
      (keeps : (n : ℕ) → contains kept n ≡ is_kept_always plant all (contains possible) n)
      (other_kept : (n : ℕ) → is_of_connector all connector n ≡ false → contains kept n ≡ contains j.kept n)
      (weight : slice_index_or weights.of_connectors connector 0 ≡ weight_of plant.atoms states all (contains kept) connector)
      (other_weights : (k : ℕ) → (k ≡ connector → ⊥) → slice_index_or weights.of_connectors k 0 ≡ slice_index_or j.weights.of_connectors k 0)
      (sums : AreSums weights) (bounded : AreBounded all weights.of_connectors) where
    and-true : (b : Bool) → (b && true) ≡ b
    and-true true = refl
    and-true false = refl

    -- of another one that is not left now it was not before
    still : (test : ℕ → Bool) (k : ℕ) → (k ≡ connector → ⊥) → but connector test k ≡ false → test k ≡ false
    still test k other out = sym (and-true (test k)) ∙ sym (ap (λ b. test k && not b) (ne_eqb k connector other)) ∙ out

    pub one-settled : IsSettledBut plant all s.ranks states (but connector stale) (but connector unweighed)
        (record { offers = j.offers; leaves = j.leaves; possible = possible; seen = j.seen; standing = j.standing; kept = kept; weights = weights })
    one-settled = record {
      offered = settled.offered;
      movable = settled.movable;
      counted = settled.counted;
      leaves = settled.leaves;
      seen = settled.seen;
      possible = λ n k its out. ⊎_elim
          (λ same. judged n (ap (λ e. is_of_connector all e n) (sym same) ∙ its))
          (λ other. others n (of-no-other s n k connector its other) ∙ settled.possible n k its (still stale k other out))
          (cases_eq k connector);
      past = λ n behind. others n (ap (λ o. option_map_or (λ (i : Interaction). i.connector == connector) o false) (slice_get_past all n behind)) ∙ settled.past n behind;
      standing = stands;
      kept = keeps;
      weights = λ k out. ⊎_elim
          (λ same. ap (λ e. slice_index_or weights.of_connectors e 0) same ∙ weight ∙ ap (weight_of plant.atoms states all (contains kept)) (sym same))
          (λ other. other_weights k other ∙ settled.weights k (still unweighed k other out) ∙
          sym (weight-same plant.atoms states all (contains j.kept) (contains kept) k (λ n its. other_kept n (of-no-other s n k connector its other))))
          (cases_eq k connector);
      sums = sums;
      bounded = bounded;
    }

-- with nothing left it is the judgement of the state
pub judged : (s : System) (states : List Local) (j : Judgement) → IsSettledBut (plant_of s) (interactions_in s) s.ranks states (λ _. false) (λ _. false) j
    → ((left right : Side) (at : At) → Contains (plant_of s).rules (UnderAt left right at) → ⊥) → IsJudgement (plant_of s) (interactions_in s) s.ranks states j
judged s states j settled unasked = record {
  offered = settled.offered;
  movable = settled.movable;
  counted = settled.counted;
  leaves = settled.leaves;
  possible = right;
  seen = settled.seen;
  standing = settled.standing;
  allowed = allowed-anew (plant_of s) states (interactions_in s) j.seen settled.seen j.possible j.kept right
      (λ n. settled.kept n ∙ ap (λ rules. contains j.possible n && not (is_overruled rules (map named (interactions_in s)) (contains j.possible) n)) (sym (same-counted (plant_of s).rules (may_be_marked j.seen) (λ _. false) unasked)));
  weights = record { each = λ k. settled.weights k refl; sums = settled.sums };
}
  where
    right : ArePossible (plant_of s).atoms (plant_of s).wires states (interactions_in s) j.possible
    right n =
        ⊎_elim
        (λ inside. let own = connector-of s n inside in settled.possible n own.0 own.2 refl)
        (λ past. settled.past n past ∙ sym (none-possible (plant_of s) states (interactions_in s) n past))
        (cases_lt n (length (interactions_in s)))
