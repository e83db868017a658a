-- Laws of the order, over the definitions alone.
use Rattle.std.specs.Prelude.{◌≡◌, ◌≢◌, ◌↔◌, ℕ, ◌<◌, Bool, true, false, List, length, Some, None, IsTrue}
use Rattle.std.specs.Ordering.{nat_cmp}
use Rattle.std.specs.FinSet.{FinSet, contains}
use Rattle.priority_filter.specs.declared.rule.Rule.{Rule}
use Rattle.priority_filter.specs.declared.seen.At.{At}
use Rattle.priority_filter.specs.declared.fault.OrderFault.TheVariants.{Cycle, UnknownName, Memory}
use Rattle.priority_filter.specs.Order.{IsBelow, IsStrict, IsFirstCyclic, AreKnown, IsFirstUnknown}
use Rattle.priority_filter.specs.Decided.{is_below, is_overruled, order_fault}
use Rattle.priority_filter.specs.Active.{active}

-- what is below something is an interaction of the list, and so is what it is below
abbrev pub BelowIsWithin : Type 0
BelowIsWithin =
    (rules : List Rule) (interactions : List (ℕ × ℕ)) (a b : ℕ)
    → IsBelow rules interactions a b → (a < length interactions) × (b < length interactions)

-- what is below something that is below a third is below the third
abbrev pub BelowIsTransitive : Type 0
BelowIsTransitive =
    (rules : List Rule) (interactions : List (ℕ × ℕ)) (a b c : ℕ)
    → IsBelow rules interactions a b → IsBelow rules interactions b c → IsBelow rules interactions a c

-- under a strict order, if something is possible, some possible interaction has no possible one above it
abbrev pub PrioritiesBringNoDeadlock : Type 0
PrioritiesBringNoDeadlock =
    (rules : List Rule) (interactions : List (ℕ × ℕ)) (possible : FinSet nat_cmp)
    → IsStrict rules interactions
    → (a : ℕ) → IsTrue (contains possible a)
    → (top : ℕ) × IsTrue (contains possible top) × ((b : ℕ) → IsTrue (contains possible b) → ¬ IsBelow rules interactions top b)

-- the computed order is the order
abbrev pub BelowIsComputed : Type 0
BelowIsComputed =
    (rules : List Rule) (interactions : List (ℕ × ℕ)) (a b : ℕ)
    → IsTrue (is_below rules interactions a b) ↔ IsBelow rules interactions a b

-- an interaction is overruled in the computed order if something that passes is above it
abbrev pub OverruledIsComputed : Type 0
OverruledIsComputed =
    (rules : List Rule) (interactions : List (ℕ × ℕ)) (possible : ℕ → Bool) (a : ℕ)
    → IsTrue (is_overruled rules interactions possible a) ↔ ((b : ℕ) × IsTrue (possible b) × IsBelow rules interactions a b)

-- the computed fault is the first unknown name, or with all names known the first cycle; and there is none
-- if all names are known and the order is strict
pub record FaultIsComputed : Type 0 where
  pub unknown : (rules : List Rule) (interactions : List (ℕ × ℕ)) (k : ℕ)
      → (order_fault rules interactions ≡ Some (UnknownName k)) ↔ IsFirstUnknown rules interactions k
  pub cycle : (rules : List Rule) (interactions : List (ℕ × ℕ)) (a : ℕ)
      → (order_fault rules interactions ≡ Some (Cycle a)) ↔ (AreKnown rules interactions × IsFirstCyclic rules interactions a)
  pub none : (rules : List Rule) (interactions : List (ℕ × ℕ))
      → (order_fault rules interactions ≡ None) ↔ (AreKnown rules interactions × IsStrict rules interactions)
  pub memory : (rules : List Rule) (interactions : List (ℕ × ℕ)) → order_fault rules interactions ≢ Some Memory

-- what is below something by the rules that count is so still if more conditions hold
abbrev pub MoreCountsMore : Type 0
MoreCountsMore =
    (rules : List Rule) (interactions : List (ℕ × ℕ)) (holds more : At → Bool) (a b : ℕ)
    → ((at : At) → holds at ≡ true → more at ≡ true)
    → IsBelow (active holds rules) interactions a b → IsBelow (active more rules) interactions a b

-- what is below something by the rules that count is below it by all rules
abbrev pub WhatCountsIsBelow : Type 0
WhatCountsIsBelow =
    (rules : List Rule) (interactions : List (ℕ × ℕ)) (holds : At → Bool) (a b : ℕ)
    → IsBelow (active holds rules) interactions a b → IsBelow rules interactions a b

-- an order that is strict if all rules count is strict whichever conditions hold
abbrev pub IsStrictInEveryState : Type 0
IsStrictInEveryState =
    (rules : List Rule) (interactions : List (ℕ × ℕ)) (holds : At → Bool)
    → IsStrict rules interactions → IsStrict (active holds rules) interactions

-- under rules without fault, if something of the list is possible, something possible is not overruled, whichever conditions hold
abbrev pub SomethingIsNotOverruled : Type 0
SomethingIsNotOverruled =
    (rules : List Rule) (interactions : List (ℕ × ℕ)) (holds : At → Bool) (possible : ℕ → Bool)
    → order_fault rules interactions ≡ None
    → (a : ℕ) → a < length interactions → IsTrue (possible a)
    → (top : ℕ) × (top < length interactions) × IsTrue (possible top) × (is_overruled (active holds rules) interactions possible top ≡ false)
