-- The computed order answers exactly what the relations of the order say.
use Rattle.std.proofs.Common.{◌≡◌, ◌≢◌, ◌↔◌, ℕ, ◌<◌, Bool, true, false, not, ◌&&◌, ltb, eqb, bit_and, List, length, Option, Some, None, IsTrue}
use Rattle.std.specs.List.{list_any}
use Rattle.std.proofs.lemmas.Bool.{both_ways, false_from_ne_true, not-false, not_from_true}
use Rattle.priority_filter.specs.declared.rule.Side.{Side}
use Rattle.priority_filter.specs.declared.rule.Side.TheVariants.{Whole, One}
use Rattle.priority_filter.specs.declared.rule.Rule.{Rule}
use Rattle.priority_filter.specs.declared.rule.Rule.TheVariants.{Under, UnderAt, Maximal}
use Rattle.priority_filter.specs.declared.seen.At.{At}
use Rattle.priority_filter.specs.declared.seen.TheConstants.{SEEN_ATOMS, SEEN_PLACES}
use Rattle.priority_filter.specs.declared.fault.OrderFault.TheVariants.{Cycle, UnknownName, Memory}
use Rattle.priority_filter.specs.Rule.{IsOn, Puts, IsProperSubset}
use Rattle.priority_filter.specs.Order.{interaction_at, rule_at, IsRuleStep, IsBelow, IsStrict, IsFirstCyclic, IsKnownSide, IsKnownPlace, IsKnown, AreKnown, IsFirstUnknown}
use Rattle.priority_filter.specs.Decided.{is_on, is_proper_subset, puts, is_rule_step, is_below, is_overruled, is_known_side, is_known_place, is_known, first_unknown, first_cyclic, fault_from, order_fault}
use Rattle.priority_filter.proofs.MaskLaws.{subset_and, proper_differs, proper_from_and}
use Rattle.priority_filter.proofs.Chains.{Leads-join, Leads-within}
use Rattle.priority_filter.proofs.DecidedTests.{decides_eq, decides_lt, decides_and, decides_not, decides_any, decides_any_below, decides_least, decides_none}
use Rattle.priority_filter.proofs.DecidedChains.{decides_leads}

-- ---- one rule

pub decides_on : (side : Side) (i : ℕ × ℕ) → IsTrue (is_on side i) ↔ IsOn side i
decides_on (Whole connector) i = decides_eq i.0 connector
decides_on (One connector mask) i =
    decides_and (eqb i.0 connector) (eqb i.1 mask) (i.0 ≡ connector) (i.1 ≡ mask) (decides_eq i.0 connector) (decides_eq i.1 mask)

pub decides_subset : (m n : ℕ) → IsTrue (is_proper_subset m n) ↔ IsProperSubset m n
decides_subset m n =
    let parts = decides_and (eqb (bit_and m n) m) (not (eqb m n)) (bit_and m n ≡ m) (m ≢ n) (decides_eq (bit_and m n) m) (decides_not (eqb m n) (m ≡ n) (decides_eq m n)) in (
      λ yes. proper_from_and m n (parts.0 yes).0 (parts.0 yes).1,
      λ proper. parts.1 (subset_and m n proper.0, proper_differs m n proper),
    )

pub decides_puts : (rule : Rule) (i j : ℕ × ℕ) → IsTrue (puts rule i j) ↔ Puts rule i j
decides_puts (Under left right) i j =
    decides_and (is_on left i) (is_on right j) (IsOn left i) (IsOn right j) (decides_on left i) (decides_on right j)
decides_puts (UnderAt left right at) i j =
    decides_and (is_on left i) (is_on right j) (IsOn left i) (IsOn right j) (decides_on left i) (decides_on right j)
decides_puts (Maximal connector) i j =
    let larger = decides_and (eqb j.0 connector) (is_proper_subset i.1 j.1) (j.0 ≡ connector) (IsProperSubset i.1 j.1) (decides_eq j.0 connector) (decides_subset i.1 j.1) in
    let parts = decides_and (eqb i.0 connector) (eqb j.0 connector && is_proper_subset i.1 j.1) (i.0 ≡ connector) ((j.0 ≡ connector) × IsProperSubset i.1 j.1) (decides_eq i.0 connector) larger in (
      λ yes. let both = parts.0 yes in (both.0, both.1.0, both.1.1),
      λ put. parts.1 (put.0, (put.1, put.2)),
    )

-- ---- steps and chains

pub decides_step : (rules : List Rule) (interactions : List (ℕ × ℕ)) (a b : ℕ) → IsTrue (is_rule_step rules interactions a b) ↔ IsRuleStep rules interactions a b
decides_step rules interactions a b =
    let size : ℕ = length interactions in
    let i : ℕ × ℕ = interaction_at interactions a in
    let j : ℕ × ℕ = interaction_at interactions b in
    let inside = decides_and (ltb a size) (ltb b size) (a < size) (b < size) (decides_lt a size) (decides_lt b size) in
    let written = decides_any (λ rule. puts rule i j) (λ rule. Puts rule i j) (λ rule. decides_puts rule i j) rules (Under (Whole 0) (Whole 0)) in
    let parts = decides_and (ltb a size && ltb b size) (list_any (λ rule. puts rule i j) rules) ((a < size) × (b < size)) ((k : ℕ) × (k < length rules) × Puts (rule_at rules k) i j) inside written in (
      λ yes. let both = parts.0 yes in record { from = both.0.0; to = both.0.1; rule = both.1.0; written = both.1.1; puts = both.1.2 },
      λ step. parts.1 ((step.from, step.to), (step.rule, step.written, step.puts)),
    )

-- the computed order is the order
pub decides_below : (rules : List Rule) (interactions : List (ℕ × ℕ)) (a b : ℕ) → IsTrue (is_below rules interactions a b) ↔ IsBelow rules interactions a b
unfolding is_below
decides_below rules interactions =
    decides_leads (IsRuleStep rules interactions) (length interactions) (λ a b step. step.from) (is_rule_step rules interactions) (decides_step rules interactions)

-- what is below something that is below a third is below the third
pub below-trans : (rules : List Rule) (interactions : List (ℕ × ℕ)) (a b c : ℕ) → is_below rules interactions a b ≡ true → is_below rules interactions b c ≡ true → is_below rules interactions a c ≡ true
below-trans rules interactions a b c up on =
    (decides_below rules interactions a c).1 (Leads-join (IsRuleStep rules interactions) a b c ((decides_below rules interactions a b).0 up) ((decides_below rules interactions b c).0 on))

-- what is below something is of the list, and so is what it is below
pub below_inside : (rules : List Rule) (interactions : List (ℕ × ℕ)) (a b : ℕ) → IsBelow rules interactions a b → (a < length interactions) × (b < length interactions)
below_inside rules interactions =
    let Both : ℕ → ℕ → Type 0 = λ a b. (a < length interactions) × (b < length interactions) in
    Leads-within (IsRuleStep rules interactions) Both (λ a b step. (step.from, step.to)) (λ s a b up on. (up.0, on.1))

-- ---- overruled

-- some number that passes is above
pub decides_overruled : (rules : List Rule) (interactions : List (ℕ × ℕ)) (possible : ℕ → Bool) (a : ℕ)
    → IsTrue (is_overruled rules interactions possible a) ↔ ((b : ℕ) × IsTrue (possible b) × IsBelow rules interactions a b)
unfolding is_overruled
decides_overruled rules interactions possible a =
    let each : (b : ℕ) → IsTrue (possible b && is_below rules interactions a b) ↔ (IsTrue (possible b) × IsBelow rules interactions a b)
    = λ b. decides_and (possible b) (is_below rules interactions a b) (IsTrue (possible b)) (IsBelow rules interactions a b) (λ yes. yes, λ yes. yes) (decides_below rules interactions a b) in
    let some = decides_any_below (λ b. possible b && is_below rules interactions a b) (length interactions) in (
      λ yes. let found = some.0 yes in let both = (each found.0).0 found.2 in (found.0, both.0, both.1),
      λ above. some.1 (above.0, (below_inside rules interactions a above.0 above.2).1, (each above.0).1 (above.1, above.2)),
    )

-- the same with the computed order
pub overruled-below : (rules : List Rule) (interactions : List (ℕ × ℕ)) (possible : ℕ → Bool) (a : ℕ)
    → (is_overruled rules interactions possible a ≡ true) ↔ ((b : ℕ) × (possible b ≡ true) × (is_below rules interactions a b ≡ true))
overruled-below rules interactions possible a =
    let decides = decides_overruled rules interactions possible a in (
      λ yes. let above = decides.0 yes in (above.0, above.1, (decides_below rules interactions a above.0).1 above.2),
      λ some. decides.1 (some.0, some.1, (decides_below rules interactions a some.0).0 some.2),
    )

-- ---- names

decides_side : (interactions : List (ℕ × ℕ)) (side : Side) → IsTrue (is_known_side interactions side) ↔ IsKnownSide interactions side
decides_side interactions side = decides_any (is_on side) (IsOn side) (decides_on side) interactions (0, 0)

decides_place : (at : At) → IsTrue (is_known_place at) ↔ IsKnownPlace at
decides_place at =
    decides_and (ltb at.atom SEEN_ATOMS) (ltb at.place SEEN_PLACES) (at.atom < SEEN_ATOMS) (at.place < SEEN_PLACES) (decides_lt at.atom SEEN_ATOMS) (decides_lt at.place SEEN_PLACES)

pub decides_known : (interactions : List (ℕ × ℕ)) (rule : Rule) → IsTrue (is_known interactions rule) ↔ IsKnown interactions rule
decides_known interactions (Under left right) =
    decides_and (is_known_side interactions left) (is_known_side interactions right) (IsKnownSide interactions left) (IsKnownSide interactions right) (decides_side interactions left) (decides_side interactions right)
decides_known interactions (UnderAt left right at) =
    let Sides : Type 0 = IsKnownSide interactions left × IsKnownSide interactions right in
    let sides : IsTrue (is_known_side interactions left && is_known_side interactions right) ↔ Sides = decides_and (is_known_side interactions left) (is_known_side interactions right) (IsKnownSide interactions left) (IsKnownSide interactions right) (decides_side interactions left) (decides_side interactions right) in
    let all = decides_and (is_known_side interactions left && is_known_side interactions right) (is_known_place at) Sides (IsKnownPlace at) sides (decides_place at) in (
      λ yes. let both = all.0 yes in (both.0.0, both.0.1, both.1),
      λ known. all.1 ((known.0, known.1), known.2),
    )
decides_known interactions (Maximal connector) = decides_side interactions (Whole connector)

module _ (rules : List Rule) (interactions : List (ℕ × ℕ)) where
  known_at : (k : ℕ) → IsTrue (is_known interactions (rule_at rules k)) ↔ IsKnown interactions (rule_at rules k)
  known_at k = decides_known interactions (rule_at rules k)

  -- the index that is found is of the first unknown rule
  pub decides_first_unknown : (k : ℕ) → (first_unknown rules interactions ≡ Some k) ↔ IsFirstUnknown rules interactions k
  decides_first_unknown k =
      let found = decides_least (λ j. not (is_known interactions (rule_at rules j))) (length rules) k in
      let denied = decides_not (is_known interactions (rule_at rules k)) (IsKnown interactions (rule_at rules k)) (known_at k) in (
        λ same. let facts = found.0 same in record {
          within = facts.0;
          unknown = denied.0 facts.1;
          before = λ j earlier. (known_at j).0 (not-false (is_known interactions (rule_at rules j)) (facts.2 j earlier));
        },
        λ first. found.1 (first.within, denied.1 first.unknown, λ j earlier. not_from_true (is_known interactions (rule_at rules j)) ((known_at j).1 (first.before j earlier))),
      )

  pub decides_all_known : (first_unknown rules interactions ≡ None) ↔ AreKnown rules interactions
  decides_all_known =
      let none = decides_none (λ j. not (is_known interactions (rule_at rules j))) (length rules) in (
        λ same j within. (known_at j).0 (not-false (is_known interactions (rule_at rules j)) (none.0 same j within)),
        λ known. none.1 (λ j within. not_from_true (is_known interactions (rule_at rules j)) ((known_at j).1 (known j within))),
      )

  below_itself : (a : ℕ) → IsTrue (is_below rules interactions a a) ↔ IsBelow rules interactions a a
  below_itself a = decides_below rules interactions a a

  not_below : (a : ℕ) → ¬ IsBelow rules interactions a a → is_below rules interactions a a ≡ false
  not_below a denied = false_from_ne_true (is_below rules interactions a a) (λ yes. denied ((below_itself a).0 yes))

  is_not_below : (a : ℕ) → is_below rules interactions a a ≡ false → ¬ IsBelow rules interactions a a
  is_not_below a fails below = both_ways (is_below rules interactions a a) fails ((below_itself a).1 below)

  -- the number that is found is the first that is below itself
  pub decides_first_cyclic : (a : ℕ) → (first_cyclic rules interactions ≡ Some a) ↔ IsFirstCyclic rules interactions a
  decides_first_cyclic a =
      let found = decides_least (λ b. is_below rules interactions b b) (length interactions) a in (
        λ same. let facts = found.0 same in record {
          cyclic = (below_itself a).0 facts.1;
          before = λ b earlier. is_not_below b (facts.2 b earlier);
        },
        λ first. found.1 ((below_inside rules interactions a a first.cyclic).0, (below_itself a).1 first.cyclic, λ b earlier. not_below b (first.before b earlier)),
      )

  pub decides_strict : (first_cyclic rules interactions ≡ None) ↔ IsStrict rules interactions
  decides_strict =
      let none = decides_none (λ b. is_below rules interactions b b) (length interactions) in (
        λ same a below. is_not_below a (none.0 same a (below_inside rules interactions a a below).0) below,
        λ strict. none.1 (λ b within. not_below b (strict b)),
      )

-- ---- faults

tells_unknown : (unknown cyclic : Option ℕ) (k : ℕ) → (fault_from unknown cyclic ≡ Some (UnknownName k)) ↔ (unknown ≡ Some k)
tells_unknown (Some j) cyclic k = (λ same. cc, λ same. cc)
tells_unknown None (Some a) k = (λ same. cc, λ same. cc)
tells_unknown None None k = (λ same. cc, λ same. cc)

tells_cycle : (unknown cyclic : Option ℕ) (a : ℕ) → (fault_from unknown cyclic ≡ Some (Cycle a)) ↔ ((unknown ≡ None) × (cyclic ≡ Some a))
tells_cycle (Some j) cyclic a = (λ same. cc, λ both. let one : Some j ≡ None = both.0 in cc)
tells_cycle None (Some b) a = (λ same. (λ _. None, cc), λ both. let one : Some b ≡ Some a = both.1 in cc)
tells_cycle None None a = (λ same. cc, λ both. let one : None ≡ Some a = both.1 in cc)

tells_none : (unknown cyclic : Option ℕ) → (fault_from unknown cyclic ≡ None) ↔ ((unknown ≡ None) × (cyclic ≡ None))
tells_none (Some j) cyclic = (λ same. cc, λ both. let one : Some j ≡ None = both.0 in cc)
tells_none None (Some b) = (λ same. cc, λ both. let one : Some b ≡ None = both.1 in cc)
tells_none None None = (λ same. (same_none, same_none), λ both. λ _. None)
  where
    same_none : ◌≡◌ {A = Option ℕ} None None
    same_none = λ _. None

tells_no_memory : (unknown cyclic : Option ℕ) → fault_from unknown cyclic ≢ Some Memory
tells_no_memory (Some j) cyclic same = cc
tells_no_memory None (Some b) same = cc
tells_no_memory None None same = cc

module _ (rules : List Rule) (interactions : List (ℕ × ℕ)) where
  -- the computed fault is an unknown name exactly if it is the first
  pub decides_unknown_fault : (k : ℕ) → (order_fault rules interactions ≡ Some (UnknownName k)) ↔ IsFirstUnknown rules interactions k
  unfolding order_fault
  decides_unknown_fault k =
      let decides = tells_unknown (first_unknown rules interactions) (first_cyclic rules interactions) k in
      let first = decides_first_unknown rules interactions k in
      (λ same. first.0 (decides.0 same), λ is. decides.1 (first.1 is))

  -- it is a cycle exactly if each name is known and it is the first
  pub decides_cycle_fault : (a : ℕ) → (order_fault rules interactions ≡ Some (Cycle a)) ↔ (AreKnown rules interactions × IsFirstCyclic rules interactions a)
  unfolding order_fault
  decides_cycle_fault a =
      let decides = tells_cycle (first_unknown rules interactions) (first_cyclic rules interactions) a in
      let known = decides_all_known rules interactions in
      let first = decides_first_cyclic rules interactions a in
      (λ same. (known.0 (decides.0 same).0, first.0 (decides.0 same).1), λ is. decides.1 (known.1 is.0, first.1 is.1))

  -- there is none exactly if each name is known and the order is strict
  pub decides_no_fault : (order_fault rules interactions ≡ None) ↔ (AreKnown rules interactions × IsStrict rules interactions)
  unfolding order_fault
  decides_no_fault =
      let decides = tells_none (first_unknown rules interactions) (first_cyclic rules interactions) in
      let known = decides_all_known rules interactions in
      let strict = decides_strict rules interactions in
      (λ same. (known.0 (decides.0 same).0, strict.0 (decides.0 same).1), λ is. decides.1 (known.1 is.0, strict.1 is.1))

  -- want of memory is no fault of the rules
  pub memory_is_no_fault : order_fault rules interactions ≢ Some Memory
  unfolding order_fault
  memory_is_no_fault = tells_no_memory (first_unknown rules interactions) (first_cyclic rules interactions)
