-- What is kept of a state after a change at some atoms: what of it is right for the state now.
use Rattle.std.proofs.Common.{◌≡◌, List, ℕ, ◌≤◌, ◌^◌, refl, sym, ◌∙◌, ap, length, map, Contains, arith, Bool, true, false, ◌&&◌, not}
use Rattle.std.specs.Prelude.{slice_index_or}
use Rattle.std.specs.FinSet.{FinSet, contains}
use Rattle.std.specs.Option.{option_map_or}
use Rattle.std.specs.Ordering.{nat_cmp}
use Rattle.std.proofs.lemmas.Option.{slice_get_past}
use Rattle.petri_atom.specs.Local.{Local}
use Rattle.connector_tree.specs.declared.tree.Port.{Port}
use Rattle.priority_filter.specs.Active.{active, may_be_marked}
use Rattle.priority_filter.specs.Decided.{is_overruled}
use Rattle.priority_filter.specs.Members.{has_bit}
use Rattle.priority_filter.specs.declared.rule.Rule.TheVariants.{UnderAt}
use Rattle.priority_filter.specs.declared.rule.Side.{Side}
use Rattle.priority_filter.specs.declared.seen.At.{At}
use Rattle.priority_filter.proofs.Counting.{alike-counted, same-counted}
use Rattle.plant_model.specs.Choice.{Interaction, active_in, is_marked_at, is_possible, is_possible_at, moves_of, named}
use Rattle.plant_model.specs.ConnectorRows.{is_of_connector}
use Rattle.plant_model.specs.Fitting.{IsOf}
use Rattle.plant_model.specs.Plant.{PlantDefinition}
use Rattle.plant_model.specs.Sights.{AreSeen}
use Rattle.plant_model.specs.System.{interactions_in, plant_of}
use Rattle.plant_model.specs.declared.system.System.{System}
use Rattle.step_core.specs.Judgement.{IsUnsettled}
use Rattle.step_core.specs.Leaves.{count_of}
use Rattle.step_core.specs.Renewal.{IsKeptBehind}
use Rattle.step_core.specs.Possible.{AreAllowed, ArePossible}
use Rattle.step_core.specs.Settling.{IsSettledBut}
use Rattle.step_core.specs.Standing.{is_always_overruled, is_kept_always}
use Rattle.step_core.specs.Weights.{weight_of}
use Rattle.step_core.specs.declared.changes.Changes.{Changes}
use Rattle.step_core.specs.declared.judgement.Judgement.{Judgement}
use Rattle.step_core.proofs.BoundedWeights.{weight-bounded}
use Rattle.step_core.proofs.Clean.{possible-as-before, weight-as-before}
use Rattle.step_core.proofs.Judging.{counted-moves}
use Rattle.step_core.proofs.SystemConnectors.{few-interactions}
use Rattle.step_core.proofs.Weighed.{few-choices, few-of-each, small-connectors, sum-of-weights}

-- past the last interaction none is possible
pub none-past : (s : System) (states : List Local) (set : FinSet nat_cmp) → ArePossible (plant_of s).atoms (plant_of s).wires states (interactions_in s) set → (n : ℕ) → length (interactions_in s) ≤ n → contains set n ≡ false
none-past s states set right n past =
    right n ∙ ap (λ o. option_map_or (is_possible (plant_of s).atoms (plant_of s).wires states) o false) (slice_get_past (interactions_in s) n past)

-- what is kept by what is possible and what is seen are the allowed interactions
pub allowed-anew : (plant : PlantDefinition) (states : List Local) (all : List Interaction) (seen : _) → AreSeen plant.rules (is_marked_at states) seen → (possible kept : FinSet nat_cmp) → ArePossible plant.atoms plant.wires states all possible
    → ((n : ℕ) → contains kept n ≡ (contains possible n && not (is_overruled (active (may_be_marked seen) plant.rules) (map named all) (contains possible) n))) → AreAllowed plant states all kept
allowed-anew plant states all seen sighted possible kept right is n =
    let test : ℕ → Bool = is_possible_at plant.atoms plant.wires states all in
    let same : contains possible ≡ test = λ i k. right k i in
    is n ∙
    ap (λ rules. contains possible n && not (is_overruled rules (map named all) (contains possible) n)) (alike-counted plant.rules (may_be_marked seen) (is_marked_at states) sighted) ∙
    ap (λ t. t n && not (is_overruled (active_in plant states) (map named all) t n)) same

module _ (s : System) (states : List Local) (of_plant : IsOf (plant_of s) states) (changes : Changes) (is_seen_new : Bool) (old : Judgement)
    (u : IsUnsettled (plant_of s) (interactions_in s) s.ranks states changes is_seen_new old) where
  abbrev plant : PlantDefinition
  plant = plant_of s

  abbrev all : List Interaction
  all = interactions_in s

  -- what is kept of the ports is how many moves they have now
  are : (p : Port) → count_of old.offers.counts p ≡ length (moves_of plant.atoms states p)
  are = counted-moves plant.atoms states old.offers.sets old.offers.counts of_plant u.offered u.counted

  -- what is possible is right but of the connectors to judge again
  pub clean : (n k : ℕ) → is_of_connector all k n ≡ true → has_bit changes.dirty k ≡ false → contains old.possible n ≡ is_possible_at plant.atoms plant.wires states all n
  clean n k its out =
      u.possible n ∙ sym (possible-as-before s u.changed u.before states u.counts old.offers.counts changes u.as_many of_plant u.stays u.were_counted are u.told n k its out)

  -- weights are right but of the connectors to weigh again, and of those of which another interaction is kept
  pub light : (later : FinSet nat_cmp) (k : ℕ) → has_bit changes.heavy k ≡ false → ((n : ℕ) → is_of_connector all k n ≡ true → contains later n ≡ contains old.kept n)
      → slice_index_or old.weights.of_connectors k 0 ≡ weight_of plant.atoms states all (contains later) k
  light later k out same =
      u.weights.each k ∙
      sym (weight-as-before s u.changed u.before states u.counts old.offers.counts changes u.as_many of_plant u.stays u.were_counted are u.told k out (contains old.kept) (contains later) same)

  -- what is kept is that of what was possible before, which is possible now of the connectors that are not affected
  pub kept-behind : (affected : ℕ) (possible : FinSet nat_cmp)
      → ((n k : ℕ) → is_of_connector all k n ≡ true → has_bit affected k ≡ false → contains possible n ≡ contains old.possible n)
      → ((n k : ℕ) → is_of_connector all k n ≡ true → has_bit affected k ≡ false → contains possible n ≡ true → is_always_overruled plant all (contains possible) n ≡ is_always_overruled plant all (contains old.possible) n)
      → IsKeptBehind plant all affected is_seen_new (may_be_marked old.seen) (contains possible) (contains possible) old.kept
  kept-behind affected possible same told = record {
    marked_before = is_marked_at u.before;
    possible_before = contains old.possible;
    rivals_before = contains old.possible;
    seen_alike = λ unseen left right at there. u.seen left right at there ∙ u.seen_alike unseen left right at there;
    possible_alike = same;
    rivals_alike = same;
    over_alike = told;
    none_before = none-past s u.before old.possible u.possible;
    were_kept = λ n.
        let test : contains old.possible ≡ is_possible_at plant.atoms plant.wires u.before all = λ i k. u.possible k i in
        u.allowed n ∙ sym (ap (λ t. t n && not (is_overruled (active_in plant u.before) (map named all) t n)) test);
  }

  -- and there are few choices, before the change too
  pub few : old.weights.total ≤ 2 ^ 122
  few =
      let sum = u.weights.sums.total ∙ sum-of-weights plant.atoms u.before all (contains old.kept) old.weights.of_connectors (λ n i there. omega (arith, u.weights.sums.many, small-connectors s n i there)) u.weights.each in
      let bound = few-choices plant.atoms u.before all (contains old.kept) (few-interactions s) (few-of-each s u.before (u.as_many ∙ of_plant)) in
      omega (arith, sum, bound)

  -- ---- where no rule has a condition

  module _ (unasked : (left right : Side) (at : At) → Contains plant.rules (UnderAt left right at) → ⊥) where
    -- what is kept is that of what was possible, by the rules without one
    kept-was : (n : ℕ) → contains old.kept n ≡ is_kept_always plant all (contains old.possible) n
    kept-was n =
        let test : contains old.possible ≡ is_possible_at plant.atoms plant.wires u.before all = λ i k. u.possible k i in
        u.allowed n ∙
        sym (ap (λ t. t n && not (is_overruled (active_in plant u.before) (map named all) t n)) test) ∙
        ap (λ rules. contains old.possible n && not (is_overruled rules (map named all) (contains old.possible) n)) (same-counted plant.rules (is_marked_at u.before) (λ _. false) unasked)

    -- so the rest is settled but of the connectors that the change reached
    pub settled-but : IsSettledBut plant all s.ranks states (has_bit changes.dirty) (has_bit changes.heavy) old
    settled-but = record {
      offered = u.offered;
      movable = u.movable;
      counted = u.counted;
      leaves = u.leaves;
      seen = u.seen;
      possible = clean;
      past = none-past s u.before old.possible u.possible;
      standing = u.standing;
      kept = kept-was;
      weights = λ k out. light old.kept k out (λ n its. refl);
      sums = u.weights.sums;
      bounded = λ k. omega (arith, u.weights.each k, weight-bounded s u.before (u.as_many ∙ of_plant) (contains old.kept) k);
    }
