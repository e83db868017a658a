-- An ascent through possible interactions ends, so some possible interaction has no possible one above it.
use Rattle.std.proofs.Common.{◌≡◌, ℕ, zero, suc, ◌-◌, ◌<◌, ◌≤◌, Bool, false, List, cond, length, filter, ⊎_elim, subst, sym, ap, ◌∙◌, IsTrue, None, arith}
use Rattle.std.specs.List.{range_with_len}
use Rattle.std.specs.Ordering.{nat_cmp}
use Rattle.std.specs.Cmp.{nat_cmp_total}
use Rattle.std.specs.FinSet.{FinSet, contains, empty, remove, len, from_list, empty_of_len, contains-empty, len-remove}
use Rattle.std.proofs.lemmas.Bool.{false≢true, false_from_ne_true}
use Rattle.priority_filter.specs.declared.rule.Rule.{Rule}
use Rattle.priority_filter.specs.declared.seen.At.{At}
use Rattle.priority_filter.specs.Active.{active}
use Rattle.priority_filter.specs.Order.{IsRuleStep, IsBelow, IsStrict}
use Rattle.priority_filter.specs.Decided.{is_overruled, order_fault}
use Rattle.priority_filter.proofs.Chains.{Leads-join}
use Rattle.priority_filter.proofs.MemberLaws.{contains-remove_other, contains_passing}
use Rattle.priority_filter.proofs.DecidedTests.{decided_by}
use Rattle.priority_filter.proofs.Counting.{strict-counted}
use Rattle.priority_filter.proofs.DecidedOrder.{decides_overruled, decides_no_fault, below_inside}

-- ---- the ascent

-- some possible interaction has no possible one above it
abbrev pub HasTop : List Rule → List (ℕ × ℕ) → FinSet nat_cmp → Type 0
HasTop rules interactions possible =
    (top : ℕ) × IsTrue (contains possible top) × ((b : ℕ) → IsTrue (contains possible b) → ¬ IsBelow rules interactions top b)

in_no_rest : (rest : FinSet nat_cmp) (b : ℕ) → len rest ≤ 0 → ¬ IsTrue (contains rest b)
in_no_rest rest b none held =
    let blank : rest ≡ empty = empty_of_len rest (omega arith) in
    false≢true (sym (ap (λ s. contains s b) blank ∙ contains-empty nat_cmp b) ∙ held)

one_less : (rest : FinSet nat_cmp) (b n : ℕ) → len rest ≤ suc n → IsTrue (contains rest b) → len (remove rest b) ≤ n
one_less rest b n size held =
    let shrinks : len (remove rest b) ≡ len rest - 1 = len-remove nat_cmp_total rest b ∙ ap (λ t. cond t (len rest - 1) (len rest)) held in
    omega arith

module _ (rules : List Rule) (interactions : List (ℕ × ℕ)) (possible : FinSet nat_cmp) (strict : IsStrict rules interactions) where
  -- the possible interactions above a are all among the rest, which shrinks with each step up
  ascend : (n : ℕ) (rest : FinSet nat_cmp) → len rest ≤ n → (a : ℕ) → IsTrue (contains possible a)
      → ((b : ℕ) → IsTrue (contains possible b) → IsBelow rules interactions a b → IsTrue (contains rest b))
      → HasTop rules interactions possible
  ascend zero rest size a is_possible above_in_rest =
      (a, is_possible, λ b possible_too below. in_no_rest rest b size (above_in_rest b possible_too below))
  ascend (suc n) rest size a is_possible above_in_rest =
      ⊎_elim
      (λ some.
      let b : ℕ = some.0 in
      let up : IsBelow rules interactions a b = some.2 in
      ascend n (remove rest b) (one_less rest b n size (above_in_rest b some.1 up)) b some.1
      (λ c possible_too below.
      contains-remove_other rest b c (λ same. strict b (subst (IsBelow rules interactions b) same below))
      ∙ above_in_rest c possible_too (Leads-join (IsRuleStep rules interactions) a b c up below)))
      (λ none. (a, is_possible, λ b possible_too below. none (b, possible_too, below)))
      (decided_by
      (is_overruled rules interactions (contains possible) a)
      ((b : ℕ) × IsTrue (contains possible b) × IsBelow rules interactions a b)
      (decides_overruled rules interactions (contains possible) a))

  pub has_top : (a : ℕ) → IsTrue (contains possible a) → HasTop rules interactions possible
  has_top a is_possible = ascend (len possible) possible (omega arith) a is_possible (λ b possible_too below. possible_too)

-- ---- in computed words

-- if rules without fault leave something possible, something possible is not overruled, whichever conditions hold
pub top_is_not_overruled : (rules : List Rule) (interactions : List (ℕ × ℕ)) (holds : At → Bool) (possible : ℕ → Bool) → order_fault rules interactions ≡ None
    → (a : ℕ) → a < length interactions → IsTrue (possible a)
    → (top : ℕ) × (top < length interactions) × IsTrue (possible top) × (is_overruled (active holds rules) interactions possible top ≡ false)
top_is_not_overruled rules interactions holds possible sound a within is_possible =
    let n : ℕ = length interactions in
    let members : FinSet nat_cmp = from_list (filter possible (range_with_len 0 n)) in
    let strict : IsStrict (active holds rules) interactions = strict-counted rules interactions holds ((decides_no_fault rules interactions).0 sound).1 in
    let found : HasTop (active holds rules) interactions members = has_top (active holds rules) interactions members strict a ((contains_passing possible n a).1 (is_possible, within)) in
    let top : ℕ = found.0 in
    let facts = (contains_passing possible n top).0 found.1 in (
      top,
      facts.1,
      facts.0,
      false_from_ne_true (is_overruled (active holds rules) interactions possible top) (λ yes.
          let above = (decides_overruled (active holds rules) interactions possible top).0 yes in
          found.2 above.0 ((contains_passing possible n above.0).1 (above.1, (below_inside (active holds rules) interactions top above.0 above.2).1)) above.2),
    )
