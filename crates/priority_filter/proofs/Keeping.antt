-- The rules with a condition as an order keeps them: the two sets of each, and how they are gathered.
use Rattle.std.proofs.Common.{◌≡◌, ◌⊎◌, ◌↔◌, ℕ, ◌+◌, ◌<◌, ◌≤◌, List, [], ◌∷◌, ◌++◌, length, Contains, refl, sym, ap, ◌∙◌, subst, inl, inr, ⊎_elim, arith, IsTrue}
use Rattle.std.specs.Ordering.{nat_cmp}
use Rattle.std.specs.FinSet.{FinSet, contains, union}
use Rattle.std.proofs.lemmas.Bool.{cases_eq, or_cases}
use Rattle.std.proofs.lemmas.List.{get_or_default}
use Rattle.std.proofs.lemmas.List.Elements.{Contains-get_or, Contains-append_left, Contains-push, Contains-push_cases}
use Rattle.priority_filter.specs.declared.rule.Side.{Side}
use Rattle.priority_filter.specs.declared.rule.Side.TheVariants.{Whole}
use Rattle.priority_filter.specs.declared.rule.Rule.{Rule}
use Rattle.priority_filter.specs.declared.rule.Rule.TheVariants.{Under, UnderAt}
use Rattle.priority_filter.specs.declared.seen.At.{At}
use Rattle.priority_filter.specs.declared.condition.Condition.{Condition}
use Rattle.priority_filter.specs.Order.{rule_at, IsBelow}
use Rattle.priority_filter.specs.Active.{unconditional}
use Rattle.priority_filter.specs.Conditions.{IsUpTo, IsFrom, IsConditionOf, IsWritten, IsKept, AreConditions, AreWithin}
use Rattle.priority_filter.specs.Table.{row_at, Above, IsSideSet}
use Rattle.priority_filter.proofs.TableLaws.{contains_union_cases}
use Rattle.priority_filter.proofs.DecidedOrder.{below_inside}

-- ---- the two sets

-- the set has those on the side, and the rows of the first k of these
abbrev pub HasFrom : List (FinSet nat_cmp) → FinSet nat_cmp → ℕ → FinSet nat_cmp → Type 0
HasFrom rows on k found = (n : ℕ) → IsTrue (contains found n) ↔ (IsTrue (contains on n) ⊎ ((x : ℕ) × (x < k) × IsTrue (contains on x) × Above rows x n))

module _ (rows : List (FinSet nat_cmp)) (on : FinSet nat_cmp) where
  pub from-none : HasFrom rows on 0 on
  from-none n = (λ there. inl there, λ some. ⊎_elim (λ there. there) (λ never. absurd (omega (arith, never.1))) some)

  pub from-skip : (k : ℕ) (found : FinSet nat_cmp) → HasFrom rows on k found → ¬ IsTrue (contains on k) → HasFrom rows on (k + 1) found
  from-skip k found so_far none n = (
    λ there. ⊎_elim (λ is. inl is) (λ up. inr (up.0, omega (arith, up.1), up.2, up.3)) ((so_far n).0 there),
    λ some. (so_far n).1 (⊎_elim
        (λ is. inl is)
        (λ up. ⊎_elim (λ same. absurd (none (subst (λ j. IsTrue (contains on j)) same up.2))) (λ other. inr (up.0, omega (arith, up.1), up.2, up.3)) (cases_eq up.0 k))
        some),
  )

  pub from-more : (k : ℕ) (found : FinSet nat_cmp) → HasFrom rows on k found → IsTrue (contains on k) → HasFrom rows on (k + 1) (union found (row_at rows k))
  from-more k found so_far here n = (
    λ there. ⊎_elim
        (λ was. ⊎_elim (λ is. inl is) (λ up. inr (up.0, omega (arith, up.1), up.2, up.3)) ((so_far n).0 was))
        (λ above. inr (k, omega arith, here, above))
        ((contains_union_cases found (row_at rows k) n).0 there),
    λ some. (contains_union_cases found (row_at rows k) n).1 (⊎_elim
        (λ is. inl ((so_far n).1 (inl is)))
        (λ up. ⊎_elim
        (λ same. inr (subst (λ j. Above rows j n) same up.3))
        (λ other. inl ((so_far n).1 (inr (up.0, omega (arith, up.1), up.2, up.3))))
        (cases_eq up.0 k))
        some),
  )

  module _ (interactions : List (ℕ × ℕ)) (side : Side) (is_side : IsSideSet interactions side on) where
    -- a set of those on the side, and of those from which a relation leads to one of these
    all-leading : (Up : ℕ → ℕ → Type 0) (found : FinSet nat_cmp) → ((n : ℕ) → IsTrue (contains found n) ↔ (IsTrue (contains on n) ⊎ ((x : ℕ) × IsTrue (contains on x) × Up n x)))
        → (n : ℕ) → IsTrue (contains found n) ↔ IsUpTo Up interactions side n
    all-leading Up found has n = (
      λ there. ⊎_elim
          (λ is. let here = (is_side n).0 is in (n, here.0, here.1, inl refl))
          (λ up. let here = (is_side up.0).0 up.1 in (up.0, here.0, here.1, inr up.2))
          ((has n).0 there),
      λ some. (has n).1 (⊎_elim
          (λ same. inl (subst (λ j. IsTrue (contains on j)) (sym same) ((is_side some.0).1 (some.1, some.2))))
          (λ up. inr (some.0, (is_side some.0).1 (some.1, some.2), up))
          some.3),
    )

    pub from-all : (k : ℕ) → length rows ≤ k → ((a b : ℕ) → Above rows a b → a < length rows) → (found : FinSet nat_cmp) → HasFrom rows on k found
        → (n : ℕ) → IsTrue (contains found n) ↔ IsFrom (Above rows) interactions side n
    from-all k all inside found has = all-leading (λ n x. Above rows x n) found (λ n. (
      λ there. ⊎_elim (λ is. inl is) (λ up. inr (up.0, up.2, up.3)) ((has n).0 there),
      λ some. (has n).1 (⊎_elim (λ is. inl is) (λ up. inr (up.0, omega (arith, inside up.0 n up.2), up.1, up.2)) some),
    ))

-- ---- all of them

module _ (rules : List Rule) (interactions : List (ℕ × ℕ)) where
  -- those of the first k rules, and no other
  pub record HasFirst (k : ℕ) (conditions : List Condition) : Type 0 where
    pub each : (c : Condition) → Contains conditions c → IsWritten rules interactions c
    pub all : (j : ℕ) (left right : Side) (at : At) → j < k → rule_at rules j ≡ UnderAt left right at → IsKept rules interactions conditions left right at

  pub first-none : HasFirst 0 []
  first-none = record { each = λ c there. absurd (omega (arith, there.1)); all = λ j left right at never. absurd (omega arith) }

  -- a rule without a condition adds none
  pub first-skip : (k : ℕ) (conditions : List Condition) → HasFirst k conditions → ((left right : Side) (at : At) → ¬ (rule_at rules k ≡ UnderAt left right at)) → HasFirst (k + 1) conditions
  first-skip k conditions so_far none = record {
    each = so_far.each;
    all = λ j left right at below is. ⊎_elim
        (λ same. absurd (none left right at (ap (rule_at rules) (sym same) ∙ is)))
        (λ other. so_far.all j left right at (omega arith) is)
        (cases_eq j k);
  }

  -- one with a condition adds its own
  module _ (k : ℕ) (conditions : List Condition) (left right : Side) (c : Condition) (within : k < length rules) (so_far : HasFirst k conditions)
      (is : rule_at rules k ≡ UnderAt left right c.at) (of_rule : IsConditionOf rules interactions left right c) where
    own : (j : ℕ) (l r : Side) (at : At) → j ≡ k → rule_at rules j ≡ UnderAt l r at → IsKept rules interactions (conditions ++ c ∷ []) l r at
    own j l r at here written =
        let same : UnderAt left right c.at ≡ UnderAt l r at = sym is ∙ ap (rule_at rules) (sym here) ∙ written in
        let same_left : left ≡ l = cc in
        let same_right : right ≡ r = cc in
        let same_at : c.at ≡ at = cc in
        record {
          condition = c;
          there = Contains-push conditions c;
          same = same_at;
          is = subst (λ side. IsConditionOf rules interactions side r c) same_left (subst (λ side. IsConditionOf rules interactions left side c) same_right of_rule);
        }

    pub first-more : HasFirst (k + 1) (conditions ++ c ∷ [])
    first-more = record {
      each = λ d there. ⊎_elim
          (λ was. so_far.each d was)
          (λ same. subst (IsWritten rules interactions) same (record {
            left = left;
            right = right;
            there = subst (Contains rules) is (Contains-get_or rules k (Under (Whole 0) (Whole 0)) within);
            is = of_rule;
          }))
          (Contains-push_cases conditions c d there);
      all = λ j l r at below written. ⊎_elim
          (λ here. own j l r at here written)
          (λ other.
          let was : IsKept rules interactions conditions l r at = so_far.all j l r at (omega arith) written in
          record { condition = was.condition; there = Contains-append_left conditions (c ∷ []) was.condition was.there; same = was.same; is = was.is })
          (cases_eq j k);
    }

  pub first-all : (k : ℕ) (conditions : List Condition) → length rules ≤ k → HasFirst k conditions → AreConditions rules interactions conditions
  first-all k conditions all has = record {
    each = has.each;
    all = λ left right at there. has.all there.0 left right at (omega (arith, there.1)) (sym (get_or_default rules there.0 (UnderAt left right at) (Under (Whole 0) (Whole 0)) there.1) ∙ there.2);
  }

-- the relation by which the sets are said may be exchanged for one that says the same
pub up-same : (Up Other : ℕ → ℕ → Type 0) → ((a b : ℕ) → Up a b ↔ Other a b) → (interactions : List (ℕ × ℕ)) (side : Side) (n : ℕ) → IsUpTo Up interactions side n ↔ IsUpTo Other interactions side n
up-same Up Other same interactions side n = (
  λ some. (some.0, some.1, some.2, ⊎_elim (λ is. inl is) (λ up. inr ((same n some.0).0 up)) some.3),
  λ some. (some.0, some.1, some.2, ⊎_elim (λ is. inl is) (λ up. inr ((same n some.0).1 up)) some.3),
)

-- those up to a side by a relation are those from it by the relation turned round
pub turned-same : (Down Other : ℕ → ℕ → Type 0) → ((a b : ℕ) → Down b a ↔ Other a b) → (interactions : List (ℕ × ℕ)) (side : Side) (n : ℕ) → IsFrom Down interactions side n ↔ IsUpTo Other interactions side n
turned-same Down = up-same (λ n x. Down x n)

pub from-same : (Up Other : ℕ → ℕ → Type 0) → ((a b : ℕ) → Up a b ↔ Other a b) → (interactions : List (ℕ × ℕ)) (side : Side) (n : ℕ) → IsFrom Up interactions side n ↔ IsFrom Other interactions side n
from-same Up Other same = up-same (λ n x. Up x n) (λ n x. Other x n) (λ n x. same x n)

-- none of them speaks of a number past the list
pub within-list : (rules : List Rule) (interactions : List (ℕ × ℕ)) (conditions : List Condition) → AreConditions rules interactions conditions → (bound : ℕ) → length interactions ≤ bound → AreWithin conditions bound
within-list rules interactions conditions kept bound enough c there n some =
    let written : IsWritten rules interactions c = kept.each c there in
    ⊎_elim
    (λ lower.
    let low : IsUpTo (IsBelow (unconditional rules) interactions) interactions written.left n = (written.is.below n).0 lower in
    ⊎_elim
    (λ same. omega (arith, low.1, same))
    (λ up. let inside = below_inside (unconditional rules) interactions n low.0 up in omega (arith, inside.0))
    low.3)
    (λ upper.
    let high : IsFrom (IsBelow (unconditional rules) interactions) interactions written.right n = (written.is.above n).0 upper in
    ⊎_elim
    (λ same. omega (arith, high.1, same))
    (λ up. let inside = below_inside (unconditional rules) interactions high.0 n up in omega (arith, inside.1))
    high.3)
    (or_cases (contains c.below n) (contains c.above n) some)
