-- Interactions that stand in the order of their connectors: where those of a connector begin and end, and the rows of them.
use Rattle.std.proofs.Common.{◌≡◌, ◌≢◌, ◌↔◌, ℕ, ◌+◌, ◌<◌, ◌≤◌, ◌^◌, refl, sym, ◌∙◌, ap, List, length, map, get_or, nat_lt, ◌==◌, Contains, arith, Bool, true, false, not, ◌&&◌, ⊎_elim}
use Rattle.std.specs.Prelude.{Option, Some, None, slice_get, option_map, if◌then◌else◌, pos}
use Rattle.std.specs.List.{range_with_len}
use Rattle.std.specs.Option.{option_map_or}
use Rattle.std.proofs.Math.Nat.{pow-le-pow_right}
use Rattle.std.proofs.lemmas.Bool.{and_parts, and_right, cases_eq, cases_lt, eq-eqb, ne_eqb, le-ltb, lt-ltb, ltb-false, ltb-true, not-true, true≢false}
use Rattle.std.proofs.lemmas.List.{length-map}
use Rattle.std.proofs.lemmas.List.FromFn.{get_or-range_with_len, length-range_with_len}
use Rattle.std.proofs.lemmas.Option.{get_or_from_slice_get, none-some, same_Some, slice_get-map, slice_get_past, slice_get_read, slice_get_within}
use Rattle.connector_tree.specs.Masks.{is_set, ports_of}
use Rattle.connector_tree.specs.PortSets.{is_port_set}
use Rattle.connector_tree.specs.Tree.{leaves}
use Rattle.connector_tree.specs.declared.tree.Port.{Port}
use Rattle.petri_atom.specs.Expression.{number, variable}
use Rattle.plant_model.specs.BoundExpressions.{has_all, leaf_bit}
use Rattle.plant_model.specs.Choice.{Interaction, plant_interactions}
use Rattle.plant_model.specs.ConnectorRows.{AreByConnector, AreRowsOf, IsInAll, has_all_at, is_before, is_from, is_of_connector, is_with_all, is_with_leaf}
use Rattle.plant_model.specs.Interaction.{interaction_of}
use Rattle.plant_model.specs.Plant.{PlantDefinition, WireDefinition}
use Rattle.plant_model.specs.Rules.{first_fault_in, tree_fault}
use Rattle.plant_model.specs.Wire.{wire_of}
use Rattle.plant_model.specs.declared.bound_expressions.Clause.{Clause}
use Rattle.plant_model.specs.declared.connector_rows.ConnectorRows.{ConnectorRows}
use Rattle.plant_model.specs.declared.interaction.Interaction as kept
use Rattle.plant_model.specs.declared.wire.Wire.{Wire}
use Rattle.plant_model.proofs.FirstFault.{both}
use Rattle.plant_model.proofs.InOrder.{interactions-rise}
use Rattle.plant_model.proofs.Membership.{entry-in, from-filter}
use Rattle.plant_model.proofs.OfInteractions.{of-wire}
use Rattle.plant_model.proofs.Pushed.{some-at}
use Rattle.plant_model.proofs.Resolving.{has_all-leaves}
use Rattle.plant_model.proofs.TreeRules.{few_leaves}

-- ---- lists as they are kept

-- an interaction of a list as it is kept is the one at its number
pub kept-at : (items : List kept.Interaction) (n : ℕ) (item : kept.Interaction) → n < length items → item ≡ get_or items n item → slice_get (map interaction_of items) n ≡ Some (interaction_of item)
kept-at items n item within is = slice_get-map interaction_of items n ∙ ap (option_map interaction_of) (slice_get_read items (length items) n item refl within is)

-- ---- where the interactions of a connector begin

module _ (all : List Interaction) (connector : ℕ) where
  at-before : (n : ℕ) (i : Interaction) → slice_get all n ≡ Some i → is_before all connector n ≡ nat_lt i.connector connector
  at-before n i there = ap (λ o. option_map_or (λ j. nat_lt j.connector connector) o false) there

  past-before : (n : ℕ) → length all ≤ n → is_before all connector n ≡ false
  past-before n past = ap (λ o. option_map_or (λ j. nat_lt j.connector connector) o false) (slice_get_past all n past)

  -- one more stands before them
  pub before-more : (k : ℕ) (i : Interaction) → slice_get all k ≡ Some i → i.connector < connector → ((n : ℕ) → n < k → is_before all connector n ≡ true) → (n : ℕ) → n < k + 1 → is_before all connector n ≡ true
  before-more k i there less before n below =
      ⊎_elim
      (λ same. ap (is_before all connector) same ∙ at-before k i there ∙ lt-ltb i.connector connector less)
      (λ other. before n (omega (arith, below, other)))
      (cases_eq n k)

  none-from : (k : ℕ) → ((n : ℕ) → k ≤ n → is_before all connector n ≡ false) → ((n : ℕ) → n < k → is_before all connector n ≡ true) → (n : ℕ) → is_before all connector n ≡ nat_lt n k
  none-from k after before n =
      ⊎_elim (λ below. before n below ∙ sym (lt-ltb n k below)) (λ from. after n from ∙ sym (le-ltb n k from)) (cases_lt n k)

  -- behind the first that does not none does
  pub before-stop : AreByConnector all → (k : ℕ) (i : Interaction) → slice_get all k ≡ Some i → connector ≤ i.connector → ((n : ℕ) → n < k → is_before all connector n ≡ true) → (n : ℕ) → is_before all connector n ≡ nat_lt n k
  before-stop listed k i there late = none-from k (λ n from. each n from (slice_get all n) refl)
    where
      each : (n : ℕ) → k ≤ n → (o : Option Interaction) → slice_get all n ≡ o → is_before all connector n ≡ false
      each n from None none = ap (λ o. option_map_or (λ j. nat_lt j.connector connector) o false) none
      each n from (Some j) some = at-before n j some ∙ le-ltb j.connector connector (omega (arith, late, listed.rising k n i j from there some))

  -- all may
  pub before-all : (k : ℕ) → length all ≤ k → ((n : ℕ) → n < k → is_before all connector n ≡ true) → (n : ℕ) → is_before all connector n ≡ nat_lt n k
  before-all k past = none-from k (λ n from. ap (λ o. option_map_or (λ j. nat_lt j.connector connector) o false) (slice_get_past all n (omega (arith, past, from))))

-- ---- a range of numbers

not-both : (b : Bool) → (not b && b) ≡ false
not-both true = refl
not-both false = refl

pub from-none : (first n : ℕ) → is_from first first n ≡ false
from-none first n = not-both (nat_lt n first)

from-last : (first k : ℕ) → first ≤ k → is_from first (k + 1) k ≡ true
from-last first k from = both (ap not (le-ltb k first from)) (lt-ltb k (k + 1) (omega arith))

from-other : (first k n : ℕ) → n ≢ k → is_from first (k + 1) n ≡ is_from first k n
from-other first k n other =
    ap (λ b. not (nat_lt n first) && b)
    (⊎_elim
    (λ below. lt-ltb n (k + 1) (omega (arith, below)) ∙ sym (lt-ltb n k below))
    (λ from. le-ltb n (k + 1) (omega (arith, from, other)) ∙ sym (le-ltb n k from))
    (cases_lt n k))

-- one number more, of those in a range whose masks have some leaves
module _ (all : List Interaction) (leaf_set first k : ℕ) (i : Interaction) (there : slice_get all k ≡ Some i) (from : first ≤ k) (old : ℕ → Bool) (so_far : (n : ℕ) → old n ≡ (is_from first k n && has_all_at all leaf_set n)) where
  here : has_all_at all leaf_set k ≡ has_all i.mask leaf_set
  here = ap (λ o. option_map_or (λ j. has_all j.mask leaf_set) o false) there

  elsewhere : (n : ℕ) → n ≢ k → (is_from first k n && has_all_at all leaf_set n) ≡ (is_from first (k + 1) n && has_all_at all leaf_set n)
  elsewhere n other = ap (λ b. b && has_all_at all leaf_set n) (sym (from-other first k n other))

  pub row-in : has_all i.mask leaf_set ≡ true → (new : ℕ → Bool) → new k ≡ true → ((n : ℕ) → n ≢ k → new n ≡ old n) → (n : ℕ) → new n ≡ (is_from first (k + 1) n && has_all_at all leaf_set n)
  row-in has new put others n =
      ⊎_elim
      (λ same. ap new same ∙ put ∙ sym (ap (λ m. is_from first (k + 1) m && has_all_at all leaf_set m) same ∙ both (from-last first k from) (here ∙ has)))
      (λ other. others n other ∙ so_far n ∙ elsewhere n other)
      (cases_eq n k)

  pub row-out : has_all i.mask leaf_set ≡ false → (n : ℕ) → old n ≡ (is_from first (k + 1) n && has_all_at all leaf_set n)
  row-out lacks n =
      ⊎_elim
      (λ same. so_far n ∙ ap (λ m. is_from first k m && has_all_at all leaf_set m) same ∙ and_right (is_from first k k) _ (here ∙ lacks) ∙
      sym (ap (λ m. is_from first (k + 1) m && has_all_at all leaf_set m) same ∙ and_right (is_from first (k + 1) k) _ (here ∙ lacks)))
      (λ other. so_far n ∙ elsewhere n other)
      (cases_eq n k)

-- ---- the interactions of a connector are those of its range

same-number : (m c : ℕ) → (not (nat_lt m c) && nat_lt m (c + 1)) ≡ (m == c)
same-number m c =
    ⊎_elim
    (λ is. both (ap not (le-ltb m c (omega (arith, is)))) (lt-ltb m (c + 1) (omega (arith, is))) ∙ sym (eq-eqb m c is))
    (λ other. ⊎_elim
    (λ less. ap (λ b. not b && nat_lt m (c + 1)) (lt-ltb m c less) ∙ sym (ne_eqb m c other))
    (λ past. and_right (not (nat_lt m c)) (nat_lt m (c + 1)) (le-ltb m (c + 1) (omega (arith, past, other))) ∙ sym (ne_eqb m c other))
    (cases_lt m c))
    (cases_eq m c)

module _ (all : List Interaction) (connector first end : ℕ) (begins : (n : ℕ) → is_before all connector n ≡ nat_lt n first) (ends : (n : ℕ) → is_before all (connector + 1) n ≡ nat_lt n end) where
  pub range-rises : first ≤ end
  range-rises = ⊎_elim (λ less. absurd (true≢false (sym (inside (slice_get all end) refl (begins end ∙ lt-ltb end first less)) ∙ ends end ∙ le-ltb end end (omega arith)))) (λ past. past) (cases_lt end first)
    where
      inside : (o : Option Interaction) → slice_get all end ≡ o → is_before all connector end ≡ true → is_before all (connector + 1) end ≡ true
      inside None none before = absurd (true≢false (sym before ∙ ap (λ o. option_map_or (λ j. nat_lt j.connector connector) o false) none))
      inside (Some i) some before =
          at-before all (connector + 1) end i some ∙
          lt-ltb i.connector (connector + 1) (omega (arith, ltb-true i.connector connector (sym (at-before all connector end i some) ∙ before)))

  -- of those whose masks have some leaves
  pub in-range : (leaf_set n : ℕ) → (is_from first end n && has_all_at all leaf_set n) ≡ is_with_all all connector leaf_set n
  in-range leaf_set n = each (slice_get all n) refl
    where
      each : (o : Option Interaction) → slice_get all n ≡ o → (is_from first end n && has_all_at all leaf_set n) ≡ is_with_all all connector leaf_set n
      each None none =
          and_right (is_from first end n) (has_all_at all leaf_set n) (ap (λ o. option_map_or (λ j. has_all j.mask leaf_set) o false) none) ∙
          sym (ap (λ o. option_map_or (λ j. j.connector == connector && has_all j.mask leaf_set) o false) none)
      each (Some i) some =
          both
          (both (ap not (sym (begins n) ∙ at-before all connector n i some)) (sym (ends n) ∙ at-before all (connector + 1) n i some) ∙ same-number i.connector connector)
          (ap (λ o. option_map_or (λ j. has_all j.mask leaf_set) o false) some) ∙
          sym (ap (λ o. option_map_or (λ j. j.connector == connector && has_all j.mask leaf_set) o false) some)

  -- of all of them
  pub range-of : (n : ℕ) → is_from first end n ≡ is_of_connector all connector n
  range-of n = each (slice_get all n) refl
    where
      each : (o : Option Interaction) → slice_get all n ≡ o → is_from first end n ≡ is_of_connector all connector n
      each None none =
          and_right (not (nat_lt n first)) (nat_lt n end) (sym (ends n) ∙ ap (λ o. option_map_or (λ j. nat_lt j.connector (connector + 1)) o false) none) ∙
          sym (ap (λ o. option_map_or (λ j. j.connector == connector) o false) none)
      each (Some i) some =
          both (ap not (sym (begins n) ∙ at-before all connector n i some)) (sym (ends n) ∙ at-before all (connector + 1) n i some) ∙ same-number i.connector connector ∙
          sym (ap (λ o. option_map_or (λ j. j.connector == connector) o false) some)

  -- a leaf takes part in all of them exactly where it takes part in each of the connector's
  pub in-all-own : (leaf : ℕ) → IsInAll all first end leaf ↔ ((n : ℕ) → is_of_connector all connector n ≡ true → is_with_leaf all connector leaf n ≡ true)
  in-all-own leaf = (λ each n own. forth each n own (slice_get all n) refl, back)
    where
      bounds : (n : ℕ) → is_of_connector all connector n ≡ true → (first ≤ n) × (n < end)
      bounds n own =
          let parts = and_parts (not (nat_lt n first)) (nat_lt n end) (range-of n ∙ own) in
          (ltb-false n first (not-true (nat_lt n first) parts.0), ltb-true n end parts.1)

      forth : IsInAll all first end leaf → (n : ℕ) → is_of_connector all connector n ≡ true → (o : Option Interaction) → slice_get all n ≡ o → is_with_leaf all connector leaf n ≡ true
      forth each n own None none = absurd (true≢false (sym own ∙ ap (λ o. option_map_or (λ j. j.connector == connector) o false) none))
      forth each n own (Some i) some =
          ap (λ o. option_map_or (λ j. j.connector == connector && is_set j.mask leaf) o false) some ∙
          both (sym (ap (λ o. option_map_or (λ j. j.connector == connector) o false) some) ∙ own) (each n i (bounds n own).0 (bounds n own).1 some)

      back : ((n : ℕ) → is_of_connector all connector n ≡ true → is_with_leaf all connector leaf n ≡ true) → IsInAll all first end leaf
      back each n i from before some =
          let own = sym (range-of n) ∙ both (ap not (le-ltb n first from)) (lt-ltb n end before) in
          (and_parts (i.connector == connector) (is_set i.mask leaf) (sym (ap (λ o. option_map_or (λ j. j.connector == connector && is_set j.mask leaf) o false) some) ∙ each n own)).1

-- ---- leaves that take part in all of some interactions

module _ (all : List Interaction) (leaf first k : ℕ) (i : Interaction) (there : slice_get all k ≡ Some i) where
  -- one interaction more
  pub in-all-more : IsInAll all first k leaf → is_set i.mask leaf ≡ true → IsInAll all first (k + 1) leaf
  in-all-more before set n j from below at =
      ⊎_elim
      (λ same. ap (λ (x : Interaction). is_set x.mask leaf) (same_Some j i (sym at ∙ ap (slice_get all) same ∙ there)) ∙ set)
      (λ other. before n j from (omega (arith, below, other)) at)
      (cases_eq n k)

  pub in-all-less : first ≤ k → IsInAll all first (k + 1) leaf → IsInAll all first k leaf × (is_set i.mask leaf ≡ true)
  in-all-less from each = (λ n j at_least below at. each n j at_least (omega (arith, below)) at, each k i from (omega arith) there)

-- ---- sets of leaves

and-true : (b : Bool) → (b && true) ≡ b
and-true true = refl
and-true false = refl

module _ (all : List Interaction) (listed : AreByConnector all) (connector : ℕ) where
  -- all of a connector's interactions have all of no leaves
  pub with-none : (n : ℕ) → is_with_all all connector 0 n ≡ is_of_connector all connector n
  with-none n = each (slice_get all n) refl
    where
      each : (o : Option Interaction) → slice_get all n ≡ o → is_with_all all connector 0 n ≡ is_of_connector all connector n
      each None none =
          ap (λ o. option_map_or (λ j. j.connector == connector && has_all j.mask 0) o false) none ∙
          sym (ap (λ o. option_map_or (λ j. j.connector == connector) o false) none)
      each (Some i) some =
          ap (λ o. option_map_or (λ j. j.connector == connector && has_all j.mask 0) o false) some ∙
          ap (λ b. i.connector == connector && b) (has_all-leaves i.mask (listed.small n i some) (number (pos 0))) ∙ and-true (i.connector == connector) ∙
          sym (ap (λ o. option_map_or (λ j. j.connector == connector) o false) some)

  -- and those with one leaf have it
  pub with-one : (leaf n : ℕ) → leaf < 16 → is_with_all all connector (2 ^ leaf) n ≡ is_with_leaf all connector leaf n
  with-one leaf n low = each (slice_get all n) refl
    where
      bit : leaf_bit leaf ≡ 2 ^ leaf
      bit = ap (λ b. if b then 2 ^ leaf else 2 ^ 16) (lt-ltb leaf 16 low)

      each : (o : Option Interaction) → slice_get all n ≡ o → is_with_all all connector (2 ^ leaf) n ≡ is_with_leaf all connector leaf n
      each None none =
          ap (λ o. option_map_or (λ j. j.connector == connector && has_all j.mask (2 ^ leaf)) o false) none ∙
          sym (ap (λ o. option_map_or (λ j. j.connector == connector && is_set j.mask leaf) o false) none)
      each (Some i) some =
          ap (λ o. option_map_or (λ j. j.connector == connector && has_all j.mask (2 ^ leaf)) o false) some ∙
          ap (λ b. i.connector == connector && b) (ap (has_all i.mask) (sym bit) ∙ has_all-leaves i.mask (listed.small n i some) (variable (record { leaf = leaf; export = 0 }))) ∙
          sym (ap (λ o. option_map_or (λ j. j.connector == connector && is_set j.mask leaf) o false) some)

-- ---- the leaves of wires as they are lent

-- there are as many lists of leaves as wires
pub lent-count : {V : Type 0} (items : V → List Port) (ports : List V) (wires : List Wire) → map items ports ≡ map (λ w. leaves (wire_of w).connector) wires → length ports ≡ length wires
lent-count items ports wires same = sym (length-map ports items) ∙ ap length same ∙ length-map wires (λ w. leaves (wire_of w).connector)

pub lent-leaves : {V : Type 0} (items : V → List Port) (ports : List V) (wires : List Wire) → map items ports ≡ map (λ w. leaves (wire_of w).connector) wires → (n : ℕ) (p : V) (w : WireDefinition) → n < length ports → p ≡ get_or ports n p → slice_get (map wire_of wires) n ≡ Some w → items p ≡ leaves w.connector
lent-leaves items ports wires same n p w within is there = each (slice_get wires n) refl
  where
    its : Some (items p) ≡ option_map (λ v. leaves (wire_of v).connector) (slice_get wires n)
    its =
        sym (slice_get-map items ports n ∙ ap (option_map items) (slice_get_read ports (length ports) n p refl within is)) ∙
        ap (λ xs. slice_get xs n) same ∙ slice_get-map (λ v. leaves (wire_of v).connector) wires n

    each : (o : Option Wire) → slice_get wires n ≡ o → items p ≡ leaves w.connector
    each None none = absurd (none-some w (sym (slice_get-map wire_of wires n ∙ ap (option_map wire_of) none) ∙ there))
    each (Some v) some =
        same_Some (items p) (leaves (wire_of v).connector) (its ∙ ap (option_map (λ v. leaves (wire_of v).connector)) some) ∙
        ap (λ u. leaves u.connector) (same_Some (wire_of v) w (sym (slice_get-map wire_of wires n ∙ ap (option_map wire_of) some) ∙ there))

-- ---- those of a plant

-- the interactions of a plant stand in the order of their connectors, and each mask has a bit for each leaf of one
pub by-connector : (plant : PlantDefinition) → first_fault_in tree_fault 0 plant.wires ≡ None → AreByConnector (plant_interactions plant)
by-connector plant none = record { rising = rising; small = small }
  where
    all : List Interaction
    all = plant_interactions plant

    rising : (m n : ℕ) (i j : Interaction) → m ≤ n → slice_get all m ≡ Some i → slice_get all n ≡ Some j → i.connector ≤ j.connector
    rising m n i j order first second =
        ⊎_elim
        (λ same. omega (arith, ap (λ (x : Interaction). x.connector) (same_Some i j (sym first ∙ ap (slice_get all) same ∙ second))))
        (λ other.
        let less : m < n = omega (arith, order, other) in
        let pair = interactions-rise (length plant.atoms) 0 plant.wires m n i less (slice_get_within all n j second) in
        let left : get_or all m i ≡ i = get_or_from_slice_get all m i i first in
        let right : get_or all n i ≡ j = get_or_from_slice_get all n j i second in
        ⊎_elim
        (λ below. omega (arith, below, ap (λ (x : Interaction). x.connector) left, ap (λ (x : Interaction). x.connector) right))
        (λ equal. omega (arith, equal.0, ap (λ (x : Interaction). x.connector) left, ap (λ (x : Interaction). x.connector) right))
        pair)
        (cases_eq m n)

    in-numbers : (n x : ℕ) → Contains (range_with_len 0 n) x → x < n
    in-numbers n x at =
        let within : at.0 < n = omega (arith, at.1, length-range_with_len 0 n) in
        omega (arith, within, at.2, get_or-range_with_len 0 n at.0 x within)

    small : (n : ℕ) (i : Interaction) → slice_get all n ≡ Some i → i.mask < 2 ^ 16
    small n i there =
        let found = of-wire plant i (entry-in all n i there) in
        let w : WireDefinition = found.0 in
        let below : i.mask < 2 ^ length (leaves w.connector) =
        in-numbers (2 ^ length (leaves w.connector)) i.mask (from-filter (λ m. is_port_set w.connector (ports_of w.connector m)) (range_with_len 0 (2 ^ length (leaves w.connector))) i.mask found.2).0 in
        let more : 2 ^ length (leaves w.connector) ≤ 2 ^ 16 = pow-le-pow_right (omega arith) (few_leaves plant.wires none i.connector w found.1) in
        omega (arith, below, more)

-- ---- the ranges of the connectors

module _ (all : List Interaction) where
  -- a number has one place where a test that all numbers below it pass is not passed any more
  pub one-end : (a b : ℕ) → ((n : ℕ) → nat_lt n a ≡ nat_lt n b) → a ≡ b
  one-end a b same =
      ⊎_elim (λ less. absurd (true≢false (sym (lt-ltb a b less) ∙ sym (same a) ∙ le-ltb a a (omega arith))))
      (λ past. ⊎_elim (λ less. absurd (true≢false (sym (lt-ltb b a less) ∙ same b ∙ le-ltb b b (omega arith)))) (λ past'. omega (arith, past, past')) (cases_lt b a))
      (cases_lt a b)

  module _ (connector : ℕ) (r : ConnectorRows) (leaf_count : ℕ) (written : List Clause) (rows : AreRowsOf all connector leaf_count written r) where
    -- a number is in the range of a connector exactly where its interaction is there and of the connector
    pub in-own-range : (n : ℕ) → is_from r.first (r.first + r.count) n ≡ is_of_connector all connector n
    in-own-range = range-of all connector r.first (r.first + r.count) rows.begins rows.ends

    -- and it is one of an interaction
    pub range-within : r.first + r.count ≤ length all
    range-within = ltb-false (length all) (r.first + r.count) (sym (rows.ends (length all)) ∙ past-before all (connector + 1) (length all) (omega arith))

  -- the range of the next connector begins where that of one ends
  pub ranges-meet : (connector : ℕ) (r s : ConnectorRows) (m n : ℕ) (xs ys : List Clause) → AreRowsOf all connector m xs r → AreRowsOf all (connector + 1) n ys s → s.first ≡ r.first + r.count
  ranges-meet connector r s m n xs ys one next = one-end s.first (r.first + r.count) (λ k. sym (next.begins k) ∙ one.ends k)

  -- and that of each later one behind it
  pub ranges-rise : (connector later : ℕ) → connector < later → (r s : ConnectorRows) (m n : ℕ) (xs ys : List Clause) → AreRowsOf all connector m xs r → AreRowsOf all later n ys s → r.first + r.count ≤ s.first
  ranges-rise connector later less r s m n xs ys one next =
      ⊎_elim
      (λ inside. absurd (true≢false (sym (before (slice_get all s.first) refl (one.ends s.first ∙ lt-ltb s.first (r.first + r.count) inside)) ∙ next.begins s.first ∙ le-ltb s.first s.first (omega arith))))
      (λ past. past)
      (cases_lt s.first (r.first + r.count))
    where
      before : (o : Option Interaction) → slice_get all s.first ≡ o → is_before all (connector + 1) s.first ≡ true → is_before all later s.first ≡ true
      before None none yes_ = absurd (true≢false (sym yes_ ∙ ap (λ o. option_map_or (λ j. nat_lt j.connector (connector + 1)) o false) none))
      before (Some i) some yes_ =
          at-before all later s.first i some ∙
          lt-ltb i.connector later (omega (arith, less, ltb-true i.connector (connector + 1) (sym (at-before all (connector + 1) s.first i some) ∙ yes_)))

  -- the first begins at 0
  pub range-first : (r : ConnectorRows) (m : ℕ) (xs : List Clause) → AreRowsOf all 0 m xs r → r.first ≡ 0
  range-first r m xs rows = one-end r.first 0 (λ k. sym (rows.begins k) ∙ none k (slice_get all k) refl)
    where
      none : (k : ℕ) (o : Option Interaction) → slice_get all k ≡ o → is_before all 0 k ≡ nat_lt k 0
      none k None past = ap (λ o. option_map_or (λ j. nat_lt j.connector 0) o false) past ∙ sym (le-ltb k 0 (omega arith))
      none k (Some i) some = at-before all 0 k i some ∙ le-ltb i.connector 0 (omega arith) ∙ sym (le-ltb k 0 (omega arith))

  -- and the last one ends behind the last interaction
  pub range-last : (connector : ℕ) → ((n : ℕ) (i : Interaction) → slice_get all n ≡ Some i → i.connector < connector + 1) → (r : ConnectorRows) (m : ℕ) (xs : List Clause) → AreRowsOf all connector m xs r → r.first + r.count ≡ length all
  range-last connector few r m xs rows = one-end (r.first + r.count) (length all) (λ k. sym (rows.ends k) ∙ each k (slice_get all k) refl)
    where
      each : (k : ℕ) (o : Option Interaction) → slice_get all k ≡ o → is_before all (connector + 1) k ≡ nat_lt k (length all)
      each k None past =
          ap (λ o. option_map_or (λ j. nat_lt j.connector (connector + 1)) o false) past ∙
          ⊎_elim (λ inside. let found = some-at all k inside in absurd (none-some found.0 (sym past ∙ found.1))) (λ beyond. sym (le-ltb k (length all) beyond)) (cases_lt k (length all))
      each k (Some i) some = at-before all (connector + 1) k i some ∙ lt-ltb i.connector (connector + 1) (few k i some) ∙ sym (lt-ltb k (length all) (slice_get_within all k i some))
