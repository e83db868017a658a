-- How it is found where connectors stand.
use Rattle.std.proofs.Common.{◌≡◌, ◌⊎◌, ◌↔◌, inl, inr, ⊎_elim, ℕ, zero, suc, ◌+◌, ◌*◌, ◌/◌, ◌%◌, ◌^◌, ◌<◌, ◌≤◌, refl, sym, ◌∙◌, ap, subst, List, [], ◌∷◌, ◌++◌, get_or, length, arith, Bool, true, false, not, ◌&&◌, ◌||◌, eqb, nat_lt, w64, Vec, Global}
use Rattle.std.specs.Prelude.{Option, Some, None, slice_get, bit_and, bit_or}
use Rattle.std.specs.Ordering.{nat_cmp}
use Rattle.std.specs.FinSet.{FinSet, contains, contains-empty, empty}
use Rattle.std.specs.Int.{bit_not, trailing_zeros}
use Rattle.std.specs.Option.{option_map_or}
use Rattle.std.proofs.lemmas.Bool.{and_from, and_parts, both_ways, cases_Bool, cases_eq, cases_lt, eq-eqb, eqb-true, false≢true, le-ltb, lt-ltb, ltb-false, ltb-true, ne_eqb, not-true, or_cases, or_left, or_right}
use Rattle.std.proofs.lemmas.List.{length-append}
use Rattle.std.proofs.lemmas.List.Folds.{list_any-append}
use Rattle.std.proofs.lemmas.Nat.{and_le_l}
use Rattle.std.proofs.lemmas.Nat.Bits.{bit_at_set_other, bit_at_set_same}
use Rattle.std.proofs.lemmas.Option.{none-some, same_Some, slice_get_past, slice_get_read, slice_get_within}
use Rattle.connector_tree.specs.Tree.{leaves}
use Rattle.priority_filter.specs.Active.{unconditional}
use Rattle.priority_filter.specs.Decided.{is_below}
use Rattle.priority_filter.specs.Members.{has_bit}
use Rattle.priority_filter.specs.declared.interaction_set.TheConstants.{ROW_WORDS}
use Rattle.priority_filter.specs.declared.rule.Rule.{Rule}
use Rattle.priority_filter.proofs.DecidedOrder.{below_inside, decides_below}
use Rattle.priority_filter.proofs.Words.{bit-and, no-bit-past}
use Rattle.plant_model.specs.Choice.{Interaction, plant_interactions}
use Rattle.plant_model.specs.ConnectorRows.{AreConnectorRows, is_of_connector}
use Rattle.plant_model.specs.Plant.{PlantDefinition, WireDefinition}
use Rattle.plant_model.specs.Ranks.{AreRanges, AreRests, IsAbove, IsRange, has_interaction, is_in_part, is_head_at, is_in_parts, is_own, parts_at}
use Rattle.plant_model.specs.declared.bound_expressions.BoundExpressions.{BoundExpressions}
use Rattle.plant_model.specs.declared.connector_rows.ConnectorRows.{ConnectorRows}
use Rattle.plant_model.specs.declared.limits.TheConstants.{MAX_INTERACTIONS}
use Rattle.plant_model.specs.declared.ranks.Part.{Part}
use Rattle.plant_model.specs.declared.ranks.Rests.{Rests}
use Rattle.plant_model.specs.declared.ranks.Shared.{Shared}
use Rattle.petri_atom.proofs.Markings.{same_answer}
use Rattle.plant_model.proofs.ByConnector.{in-own-range, range-within}
use Rattle.plant_model.proofs.FirstFault.{both}
use Rattle.plant_model.proofs.Membership.{entry-in}
use Rattle.plant_model.proofs.OfInteractions.{of-wire}
use Rattle.plant_model.proofs.Pushed.{get-last, get-pushed, some-at}
use Rattle.plant_model.proofs.BitsLeft.{lowest-set, no-bit}
use Rattle.plant_model.proofs.WordSets.{bit-without}

-- ---- the range of a connector

module _ (r : ConnectorRows) (range : IsRange r) (m : ℕ) where
  pub in-range : contains r.own m ≡ true → (r.first ≤ m) × (m < r.first + r.count)
  in-range own =
      let parts = and_parts (not (nat_lt m r.first)) (nat_lt m (r.first + r.count)) (sym (range.own m) ∙ own) in
      (ltb-false m r.first (not-true (nat_lt m r.first) parts.0), ltb-true m (r.first + r.count) parts.1)

  -- and stands in the words of that
  pub in-words : contains r.own m ≡ true → (r.low ≤ m / 64) × (m / 64 < r.high)
  in-words own = let its = in-range own in (omega (arith, its.0, range.low), omega (arith, its.1, range.high))

  pub of-range : r.first ≤ m → m < r.first + r.count → contains r.own m ≡ true
  of-range from before = range.own m ∙ and_from (not (nat_lt m r.first)) (nat_lt m (r.first + r.count)) (ap not (le-ltb m r.first from)) (lt-ltb m (r.first + r.count) before)

pub few-words : (r : ConnectorRows) → IsRange r → r.high ≤ ROW_WORDS
few-words r range = omega (arith, range.few, range.high)

-- the rows of the connectors of a plant hold their interactions by ranges
pub ranges-from : (wires : List WireDefinition) (bound : List BoundExpressions) (interactions : List Interaction) (rows : List ConnectorRows) → length bound ≡ length wires → length interactions ≤ MAX_INTERACTIONS
    → ((n : ℕ) (i : Interaction) → slice_get interactions n ≡ Some i → i.connector < length wires) → AreConnectorRows wires bound interactions rows → AreRanges interactions rows
ranges-from wires bound interactions rows as_many few known are = record {
  range = λ k r at.
      let w = wire k r at in
      let b = found k r at in
      let its = are.each k r w.0 b.0 at w.1 b.1 in
      record {
        few = omega (arith, few, within k r at);
        low = its.low;
        high = its.high;
        own = λ n. its.own n ∙ sym (in-own-range interactions k r (length (leaves w.0.connector)) b.0.clauses.items its n);
      };
  within = within;
  own = λ k n r at. (are.each k r (wire k r at).0 (found k r at).0 at (wire k r at).1 (found k r at).1).own n;
  known = λ n i at. omega (arith, known n i at, are.as_many);
}
  where
    wire : (k : ℕ) (r : ConnectorRows) → slice_get rows k ≡ Some r → (w : WireDefinition) × (slice_get wires k ≡ Some w)
    wire k r at = some-at wires k (omega (arith, slice_get_within rows k r at, are.as_many))

    found : (k : ℕ) (r : ConnectorRows) → slice_get rows k ≡ Some r → (b : BoundExpressions) × (slice_get bound k ≡ Some b)
    found k r at = some-at bound k (omega (arith, slice_get_within rows k r at, are.as_many, as_many))

    within : (k : ℕ) (r : ConnectorRows) → slice_get rows k ≡ Some r → r.first + r.count ≤ length interactions
    within k r at =
        let w = wire k r at in
        let b = found k r at in
        range-within interactions k r (length (leaves w.0.connector)) b.0.clauses.items (are.each k r w.0 b.0 at w.1 b.1)

-- each interaction of a plant is of one of its wires
pub known-from : (plant : PlantDefinition) (n : ℕ) (i : Interaction) → slice_get (plant_interactions plant) n ≡ Some i → i.connector < length plant.wires
known-from plant n i at = let found = of-wire plant i (entry-in (plant_interactions plant) n i at) in slice_get_within plant.wires i.connector found.0 found.1

-- what is above something is there
pub up-inside : (rules : List Rule) (names : List (ℕ × ℕ)) (n m : ℕ) → is_below (unconditional rules) names n m ≡ true → m < length names
up-inside rules names n m up = (below_inside (unconditional rules) names n m ((decides_below (unconditional rules) names n m).0 up)).1

-- ---- the interactions of a connector by its rows

module _ (rows : List ConnectorRows) (k n : ℕ) where
  pub own-at : (r : ConnectorRows) → slice_get rows k ≡ Some r → is_own rows k n ≡ contains r.own n
  own-at r at = ap (λ o. option_map_or (λ (x : ConnectorRows). contains x.own n) o false) at

  pub own-there : is_own rows k n ≡ true → (r : ConnectorRows) × (slice_get rows k ≡ Some r) × (contains r.own n ≡ true)
  own-there own = each (slice_get rows k) refl
    where
      each : (o : Option ConnectorRows) → slice_get rows k ≡ o → (r : ConnectorRows) × (slice_get rows k ≡ Some r) × (contains r.own n ≡ true)
      each None none = absurd (false≢true (sym (ap (λ o. option_map_or (λ (x : ConnectorRows). contains x.own n) o false) none) ∙ own))
      each (Some r) some = (r, some, sym (own-at r some) ∙ own)

  pub own-within : is_own rows k n ≡ true → k < length rows
  own-within own = let found = own-there own in slice_get_within rows k found.0 found.1

-- they are those of the connector
pub own-is : (interactions : List Interaction) (rows : List ConnectorRows) → AreRanges interactions rows → (k n : ℕ) → is_own rows k n ≡ is_of_connector interactions k n
own-is interactions rows ranges k n =
    ⊎_elim
    (λ below. let r = some-at rows k below in own-at rows k n r.0 r.1 ∙ ranges.own k n r.0 r.1)
    (λ past. ap (λ o. option_map_or (λ (x : ConnectorRows). contains x.own n) o false) (slice_get_past rows k past) ∙ sym (none past (slice_get interactions n) refl))
    (cases_lt k (length rows))
  where
    none : length rows ≤ k → (o : Option Interaction) → slice_get interactions n ≡ o → is_of_connector interactions k n ≡ false
    none past None at = ap (λ o. option_map_or (λ (i : Interaction). eqb i.connector k) o false) at
    none past (Some i) at =
        ap (λ o. option_map_or (λ (j : Interaction). eqb j.connector k) o false) at ∙ ne_eqb i.connector k (λ same. absurd (omega (arith, past, same, ranges.known n i at)))

-- what is above each interaction of a connector is so with what is the same of each
pub above-as : (under : ℕ → ℕ → Bool) (p q : ℕ → Bool) (m : ℕ) → ((n : ℕ) → p n ≡ q n) → IsAbove under p m → IsAbove under q m
above-as under p q m same is = record {
  apart = sym (same m) ∙ is.apart;
  some = (is.some.0, sym (same is.some.0) ∙ is.some.1);
  each = λ n own. is.each n (same n ∙ own);
}

-- ---- words

-- where nothing of a word is left without the bits of another, that has its bits
pub without-none : (a b k : ℕ) → b < 2 ^ 64 → k < 64 → bit_and a (bit_not w64 b) ≡ 0 → has_bit a k ≡ true → has_bit b k ≡ true
without-none a b k small low none set =
    ⊎_elim
    (λ yes. yes)
    (λ no. absurd (both_ways (has_bit (bit_and a (bit_not w64 b)) k) (ap (λ w. has_bit w k) none ∙ no-bit k) (bit-without a b k small low ∙ and_from (has_bit a k) (not (has_bit b k)) set (ap not no))))
    (cases_Bool (has_bit b k))

-- a word that is not 0 has a bit
pub some-in : (place word : ℕ) (p : ℕ → Bool) → ((n : ℕ) → n / 64 ≡ place → has_bit word (n % 64) ≡ p n) → word < 2 ^ 64 → 0 < word → (m : ℕ) × (m / 64 ≡ place) × (p m ≡ true)
some-in place word p is small some =
    let low : ℕ = trailing_zeros w64 word in
    let set : has_bit word low ≡ true = lowest-set word some small in
    ⊎_elim
    (λ below.
    let m : ℕ = 64 * place + low in
    let at : m / 64 ≡ place = omega (arith, below) in
    let bit : m % 64 ≡ low = omega (arith, below) in
    (m, at, sym (is m at) ∙ ap (has_bit word) bit ∙ set))
    (λ past. absurd (both_ways (has_bit word low) (no-bit-past word low small past) set))
    (cases_lt low 64)

-- two words with a common bit
pub common-in : (place a b : ℕ) (p q : ℕ → Bool) → ((n : ℕ) → n / 64 ≡ place → has_bit a (n % 64) ≡ p n) → ((n : ℕ) → n / 64 ≡ place → has_bit b (n % 64) ≡ q n) → a < 2 ^ 64 → 0 < bit_and a b
    → (m : ℕ) × (m / 64 ≡ place) × (p m ≡ true) × (q m ≡ true)
common-in place a b p q one other small some =
    let found = some-in place (bit_and a b) (λ n. p n && q n) (λ n at. bit-and a b (n % 64) ∙ both (one n at) (other n at)) (omega (arith, small, and_le_l a b)) some in
    let parts = and_parts (p found.0) (q found.0) found.2 in
    (found.0, found.1, parts.0, parts.1)

-- of the numbers below one the bits are those of which something holds: so it is with one number more
module _ (word n : ℕ) (P : ℕ → Type 0) (so_far : (k : ℕ) → (has_bit word k ≡ true) ↔ ((k < n) × P k)) where
  pub mark-passed : (P n → ⊥) → (k : ℕ) → (has_bit word k ≡ true) ↔ ((k < n + 1) × P k)
  mark-passed fails k = (
    λ set. let its = (so_far k).0 set in (omega (arith, its.0), its.1),
    λ is. ⊎_elim (λ same. absurd (fails (subst P same is.1))) (λ other. (so_far k).1 (omega (arith, is.0, other), is.1)) (cases_eq k n),
  )

  pub mark-added : n < 64 → P n → (k : ℕ) → (has_bit (bit_or word (1 * 2 ^ n % 2 ^ 64)) k ≡ true) ↔ ((k < n + 1) × P k)
  mark-added low holds k = (
    λ set. ⊎_elim
        (λ same. (omega (arith, same), subst P (sym same) holds))
        (λ other. let its = (so_far k).0 (sym (ap (λ x. eqb x 1) (bit_at_set_other w64 word n low k other)) ∙ set) in (omega (arith, its.0), its.1))
        (cases_eq k n),
    λ is. ⊎_elim
        (λ same. ap (has_bit (bit_or word (1 * 2 ^ n % 2 ^ 64))) same ∙ ap (λ x. eqb x 1) (bit_at_set_same w64 word n low))
        (λ other. ap (λ x. eqb x 1) (bit_at_set_other w64 word n low k other) ∙ (so_far k).1 (omega (arith, is.0, other), is.1))
        (cases_eq k n),
  )

-- before the first number there is none
pub mark-none : (P : ℕ → Type 0) (k : ℕ) → (has_bit 0 k ≡ true) ↔ ((k < 0) × P k)
mark-none P k = (λ set. absurd (both_ways (has_bit 0 k) (no-bit k) set), λ is. absurd (omega (arith, is.0)))

-- ---- connectors

-- an interaction is of one connector
pub one-connector : (interactions : List Interaction) (a b n : ℕ) → is_of_connector interactions a n ≡ true → is_of_connector interactions b n ≡ true → a ≡ b
one-connector interactions a b n first second = each (slice_get interactions n) refl
  where
    each : (o : Option Interaction) → slice_get interactions n ≡ o → a ≡ b
    each None none = absurd (false≢true (sym (ap (λ o. option_map_or (λ (i : Interaction). eqb i.connector a) o false) none) ∙ first))
    each (Some i) some =
        sym (eqb-true i.connector a (sym (ap (λ o. option_map_or (λ (j : Interaction). eqb j.connector a) o false) some) ∙ first)) ∙
        eqb-true i.connector b (sym (ap (λ o. option_map_or (λ (j : Interaction). eqb j.connector b) o false) some) ∙ second)

-- a connector of an interaction has one
pub some-interaction : (interactions : List Interaction) (e m : ℕ) → is_of_connector interactions e m ≡ true → has_interaction interactions e ≡ true
some-interaction [] e m own = absurd (false≢true own)
some-interaction (i ∷ is) e zero own = or_left (eqb i.connector e) (has_interaction is e) own
some-interaction (i ∷ is) e (suc m) own = or_right (eqb i.connector e) (has_interaction is e) (some-interaction is e m own)

-- ---- heads

-- what is left of a set, where the interactions of a connector are taken out with others
pub heads-more : (own : ℕ → ℕ → Bool) (all old new : FinSet nat_cmp) (word n : ℕ) → n < 64 → ((m : ℕ) → (contains old m ≡ true) ↔ ((contains all m ≡ true) × ((e : ℕ) → has_bit word e ≡ true → own e m ≡ false)))
    → ((m : ℕ) → contains new m ≡ (contains old m && not (own n m)))
    → (m : ℕ) → (contains new m ≡ true) ↔ ((contains all m ≡ true) × ((e : ℕ) → has_bit (bit_or word (1 * 2 ^ n % 2 ^ 64)) e ≡ true → own e m ≡ false))
heads-more own all old new word n low before taken m = (
  λ inside.
      let parts = and_parts (contains old m) (not (own n m)) (sym (taken m) ∙ inside) in
      let its = (before m).0 parts.0 in (
        its.0,
        λ e set. ⊎_elim
            (λ same. ap (λ k. own k m) same ∙ not-true (own n m) parts.1)
            (λ other. its.1 e (sym (ap (λ x. eqb x 1) (bit_at_set_other w64 word n low e other)) ∙ set))
            (cases_eq e n),
      ),
  λ is.
      taken m ∙
      and_from (contains old m) (not (own n m))
      ((before m).1 (
        is.0,
        λ e set. is.1 e (⊎_elim
            (λ same. ap (has_bit (bit_or word (1 * 2 ^ n % 2 ^ 64))) same ∙ ap (λ x. eqb x 1) (bit_at_set_same w64 word n low))
            (λ other. ap (λ x. eqb x 1) (bit_at_set_other w64 word n low e other) ∙ set)
            (cases_eq e n)),
      ))
      (ap not (is.1 n (ap (λ x. eqb x 1) (bit_at_set_same w64 word n low)))),
)

-- ---- entries of a list as they are read

pub read-at : {X : Type 0} (xs : List X) (n : ℕ) (item : X) → n < length xs → item ≡ get_or xs n item → (x : X) → slice_get xs n ≡ Some x → get_or xs n item ≡ x
read-at xs n item below is x at = sym is ∙ same_Some item x (sym (slice_get_read xs (length xs) n item refl below is) ∙ at)

-- ---- parts

-- the word at a place is gone through; the parts so far are of the words before it
module _ (set : FinSet nat_cmp) (place word : ℕ) (is : (n : ℕ) → n / 64 ≡ place → has_bit word (n % 64) ≡ contains set n) (parts : List Part)
    (within : (m : ℕ) → is_in_parts parts m ≡ true → contains set m ≡ true) (all : (m : ℕ) → m / 64 < place → contains set m ≡ true → is_in_parts parts m ≡ true) where
  abbrev pub part-at : Part
  part-at = record { place = place; word = word }

  one-more : (m : ℕ) → is_in_parts (parts ++ part-at ∷ []) m ≡ (is_in_parts parts m || is_in_part m part-at)
  one-more m = list_any-append (is_in_part m) parts (part-at ∷ []) ∙ ap (λ b. is_in_parts parts m || b) (or-none (is_in_part m part-at))
    where
      or-none : (b : Bool) → (b || false) ≡ b
      or-none true = refl
      or-none false = refl

  pub part-within : (m : ℕ) → is_in_parts (parts ++ part-at ∷ []) m ≡ true → contains set m ≡ true
  part-within m inside =
      ⊎_elim
      (λ old. within m old)
      (λ new. let bits = and_parts (eqb (m / 64) place) (has_bit word (m % 64)) new in sym (is m (eqb-true (m / 64) place bits.0)) ∙ bits.1)
      (or_cases (is_in_parts parts m) (is_in_part m part-at) (sym (one-more m) ∙ inside))

  pub part-all : (m : ℕ) → m / 64 < place + 1 → contains set m ≡ true → is_in_parts (parts ++ part-at ∷ []) m ≡ true
  part-all m below its =
      one-more m ∙
      ⊎_elim
      (λ at. or_right (is_in_parts parts m) (is_in_part m part-at) (and_from (eqb (m / 64) place) (has_bit word (m % 64)) (eq-eqb (m / 64) place at) (is m at ∙ its)))
      (λ other. or_left (is_in_parts parts m) (is_in_part m part-at) (all m (omega (arith, below, other)) its))
      (cases_eq (m / 64) place)

  -- it is empty
  pub part-passed : word ≡ 0 → (m : ℕ) → m / 64 < place + 1 → contains set m ≡ true → is_in_parts parts m ≡ true
  part-passed none m below its =
      ⊎_elim
      (λ at. absurd (both_ways (has_bit word (m % 64)) (ap (λ w. has_bit w (m % 64)) none ∙ no-bit (m % 64)) (is m at ∙ its)))
      (λ other. all m (omega (arith, below, other)) its)
      (cases_eq (m / 64) place)

-- what is in one of the parts is in the parts
pub in-parts : (parts : List Part) (k : ℕ) (p : Part) (m : ℕ) → slice_get parts k ≡ Some p → is_in_part m p ≡ true → is_in_parts parts m ≡ true
in-parts [] k p m there inside = absurd (none-some p there)
in-parts (q ∷ qs) zero p m there inside = or_left (is_in_part m q) (is_in_parts qs m) (ap (is_in_part m) (same_Some q p there) ∙ inside)
in-parts (q ∷ qs) (suc k) p m there inside = or_right (is_in_part m q) (is_in_parts qs m) (in-parts qs k p m there inside)

-- and what is in the parts in one of them
pub from-parts : (parts : List Part) (m : ℕ) → is_in_parts parts m ≡ true → (k : ℕ) × (p : Part) × (slice_get parts k ≡ Some p) × (is_in_part m p ≡ true)
from-parts [] m inside = absurd (false≢true inside)
from-parts (q ∷ qs) m inside =
    ⊎_elim
    (λ here. (zero, q, refl, here))
    (λ no. let later = from-parts qs m (sym (ap (λ b. b || is_in_parts qs m) no) ∙ inside) in (suc later.0, later.1, later.2, later.3))
    (cases_Bool (is_in_part m q))

-- a head of a connector is there
pub head-there : (shared : List Shared) (m k : ℕ) → is_head_at shared m k ≡ true → (s : Shared) × (slice_get shared k ≡ Some s) × (contains s.heads m ≡ true)
head-there shared m k head = each (slice_get shared k) refl
  where
    each : (o : Option Shared) → slice_get shared k ≡ o → (s : Shared) × (slice_get shared k ≡ Some s) × (contains s.heads m ≡ true)
    each None none = absurd (false≢true (sym (ap (λ o. option_map_or (λ (s : Shared). contains s.heads m) o false) none) ∙ head))
    each (Some s) some = (s, some, sym (ap (λ o. option_map_or (λ (x : Shared). contains x.heads m) o false) some) ∙ head)

-- ---- rests

-- the parts at a place
pub parts-are : (all : List (Vec Part Global)) (n : ℕ) (v : Vec Part Global) → slice_get all n ≡ Some v → parts_at all n ≡ v.items
parts-are all n v at = ap (λ o. option_map_or (λ (x : Vec Part Global). x.items) o []) at

pub parts-past : (all : List (Vec Part Global)) (n : ℕ) → length all ≤ n → parts_at all n ≡ []
parts-past all n past = ap (λ o. option_map_or (λ (x : Vec Part Global). x.items) o []) (slice_get_past all n past)

-- before the first there is none
pub rests-none : (under : ℕ → ℕ → Bool) (interactions : List Interaction) (shared : List Shared) (new : Rests) → new.parts.items ≡ [] → new.with_rest ≡ empty → new.watched ≡ empty → AreRests under interactions shared 0 new
rests-none under interactions shared new no-parts no-number no-watched = record {
  as_many = ap length no-parts;
  places = λ n k p at. absurd (none-some p (sym (ap (λ ps. slice_get ps k) (none n)) ∙ at));
  each = λ n m i s below. absurd (omega (arith, below));
  with_rest = λ n. (
    λ inside. absurd (both_ways (contains new.with_rest n) (ap (λ set. contains set n) no-number ∙ contains-empty nat_cmp n) inside),
    λ some. absurd (false≢true (ap (λ ps. is_in_parts ps some.0) (sym (none n)) ∙ some.1)),
  );
  watched = λ m. (
    λ inside. absurd (both_ways (contains new.watched m) (ap (λ set. contains set m) no-watched ∙ contains-empty nat_cmp m) inside),
    λ some. absurd (false≢true (ap (λ ps. is_in_parts ps m) (sym (none some.0)) ∙ some.1)),
  );
}
  where
    none : (n : ℕ) → parts_at new.parts.items n ≡ []
    none n = parts-past new.parts.items n (omega (arith, ap length no-parts))

-- one more rest
module _ (under : ℕ → ℕ → Bool) (interactions : List Interaction) (shared : List Shared) (n : ℕ) (old : Rests) (before : AreRests under interactions shared n old)
    (i : Interaction) (there : slice_get interactions n ≡ Some i) (s : Shared) (its : slice_get shared i.connector ≡ Some s)
    (above : FinSet nat_cmp) (is : (m : ℕ) → contains above m ≡ (under n m && not (contains s.covered m))) (low : (m : ℕ) → under n m ≡ true → m / 64 < ROW_WORDS)
    (rest : Vec Part Global) (places : (k : ℕ) (p : Part) → slice_get rest.items k ≡ Some p → p.place < ROW_WORDS)
    (within : (m : ℕ) → is_in_parts rest.items m ≡ true → contains above m ≡ true) (all : (m : ℕ) → m / 64 < ROW_WORDS → contains above m ≡ true → is_in_parts rest.items m ≡ true)
    (new : Rests) (pushed : new.parts.items ≡ old.parts.items ++ rest ∷ [])
    (with_new : (k : ℕ) → (contains new.with_rest k ≡ true) ↔ ((contains old.with_rest k ≡ true) ⊎ ((k ≡ n) × ((m : ℕ) × (contains above m ≡ true)))))
    (watched_new : (m : ℕ) → contains new.watched m ≡ (contains old.watched m || contains above m)) where
  earlier : (k : ℕ) → k < n → parts_at new.parts.items k ≡ parts_at old.parts.items k
  earlier k below = ap (λ xs. parts_at xs k) pushed ∙ ap (λ o. option_map_or (λ (x : Vec Part Global). x.items) o []) (get-pushed old.parts.items rest k (omega (arith, below, before.as_many)))

  here : parts_at new.parts.items n ≡ rest.items
  here = ap (λ xs. parts_at xs n) pushed ∙ parts-are (old.parts.items ++ rest ∷ []) n rest (get-last old.parts.items rest n (sym before.as_many))

  many : length new.parts.items ≡ n + 1
  many = ap length pushed ∙ length-append old.parts.items (rest ∷ []) ∙ ap (λ k. k + 1) before.as_many

  -- what is in the rest of one is in that of an earlier one, or in the new one
  from-new : (k m : ℕ) → is_in_parts (parts_at new.parts.items k) m ≡ true → (is_in_parts (parts_at old.parts.items k) m ≡ true) ⊎ ((k ≡ n) × (contains above m ≡ true))
  from-new k m inside =
      ⊎_elim
      (λ below. inl (ap (λ ps. is_in_parts ps m) (sym (earlier k below)) ∙ inside))
      (λ past. ⊎_elim
      (λ same. inr (same, within m (sym (ap (λ ps. is_in_parts ps m) (ap (parts_at new.parts.items) same ∙ here)) ∙ inside)))
      (λ other. absurd (false≢true (ap (λ ps. is_in_parts ps m) (sym (parts-past new.parts.items k (omega (arith, past, other, many)))) ∙ inside)))
      (cases_eq k n))
      (cases_lt k n)

  in-old : (k m : ℕ) → is_in_parts (parts_at old.parts.items k) m ≡ true → is_in_parts (parts_at new.parts.items k) m ≡ true
  in-old k m inside =
      ⊎_elim
      (λ below. ap (λ ps. is_in_parts ps m) (earlier k below) ∙ inside)
      (λ past. absurd (false≢true (ap (λ ps. is_in_parts ps m) (sym (parts-past old.parts.items k (omega (arith, past, before.as_many)))) ∙ inside)))
      (cases_lt k n)

  in-here : (m : ℕ) → contains above m ≡ true → is_in_parts (parts_at new.parts.items n) m ≡ true
  in-here m inside = ap (λ ps. is_in_parts ps m) here ∙ all m (low m (and_parts (under n m) (not (contains s.covered m)) (sym (is m) ∙ inside)).0) inside

  pub rests-more : AreRests under interactions shared (n + 1) new
  rests-more = record {
    as_many = many;
    places = λ k j p at. ⊎_elim
        (λ below. before.places k j p (ap (λ ps. slice_get ps j) (sym (earlier k below)) ∙ at))
        (λ past. ⊎_elim
        (λ same. places j p (sym (ap (λ ps. slice_get ps j) (ap (parts_at new.parts.items) same ∙ here)) ∙ at))
        (λ other. absurd (none-some p (sym (ap (λ ps. slice_get ps j) (parts-past new.parts.items k (omega (arith, past, other, many)))) ∙ at)))
        (cases_eq k n))
        (cases_lt k n);
    each = λ k m j t below at own. ⊎_elim
        (λ same.
        let is_i = same_Some i j (sym there ∙ ap (slice_get interactions) (sym same) ∙ at) in
        let is_s = same_Some s t (sym its ∙ ap (λ (x : Interaction). slice_get shared x.connector) is_i ∙ own) in
        ap (λ x. is_in_parts (parts_at new.parts.items x) m) same ∙
        same_answer (is_in_parts (parts_at new.parts.items n) m) (contains above m) (λ inside. within m (sym (ap (λ ps. is_in_parts ps m) here) ∙ inside)) (in-here m) ∙
        is m ∙ ap (λ x. under x m && not (contains s.covered m)) (sym same) ∙ ap (λ (x : Shared). under k m && not (contains x.covered m)) is_s)
        (λ other. ap (λ ps. is_in_parts ps m) (earlier k (omega (arith, below, other))) ∙ before.each k m j t (omega (arith, below, other)) at own)
        (cases_eq k n);
    with_rest = λ k. (
      λ inside. ⊎_elim
          (λ old_one. let found = (before.with_rest k).0 old_one in (found.0, in-old k found.0 found.1))
          (λ new_one. (new_one.1.0, ap (λ x. is_in_parts (parts_at new.parts.items x) new_one.1.0) new_one.0 ∙ in-here new_one.1.0 new_one.1.1))
          ((with_new k).0 inside),
      λ some. (with_new k).1 (⊎_elim (λ old_one. inl ((before.with_rest k).1 (some.0, old_one))) (λ new_one. inr (new_one.0, (some.0, new_one.1))) (from-new k some.0 some.1)),
    );
    watched = λ m. (
      λ inside. ⊎_elim
          (λ old_one. let found = (before.watched m).0 old_one in (found.0, in-old found.0 m found.1))
          (λ new_one. (n, in-here m new_one))
          (or_cases (contains old.watched m) (contains above m) (sym (watched_new m) ∙ inside)),
      λ some. watched_new m ∙ ⊎_elim
          (λ old_one. or_left (contains old.watched m) (contains above m) ((before.watched m).1 (some.0, old_one)))
          (λ new_one. or_right (contains old.watched m) (contains above m) new_one.1)
          (from-new some.0 m some.1),
    );
  }
