-- How the rules with a condition are kept, and what they tell of a set of interactions.
use Rattle.std.specs.Prelude.{◌≡◌, ℕ, ◌<◌, ◌⊎◌, ◌↔◌, ◌||◌, Bool, true, List, length, Contains, slice_index_or, IsTrue}
use Rattle.std.specs.FinSet.{contains}
use Rattle.priority_filter.specs.declared.rule.Side.{Side}
use Rattle.priority_filter.specs.declared.rule.Rule.{Rule}
use Rattle.priority_filter.specs.declared.rule.Rule.TheVariants.{UnderAt}
use Rattle.priority_filter.specs.declared.seen.At.{At}
use Rattle.priority_filter.specs.declared.condition.Condition.{Condition}
use Rattle.priority_filter.specs.Rule.{IsOn}
use Rattle.priority_filter.specs.Order.{interaction_at, IsBelow}
use Rattle.priority_filter.specs.Active.{unconditional}
use Rattle.priority_filter.specs.Members.{has_bit}

-- ---- one rule with a condition

-- an interaction is on the side, or the relation leads from it to one that is
abbrev pub IsUpTo : (ℕ → ℕ → Type 0) → List (ℕ × ℕ) → Side → ℕ → Type 0
IsUpTo Up interactions side n =
    (x : ℕ) × (x < length interactions) × IsOn side (interaction_at interactions x) × ((n ≡ x) ⊎ Up n x)

-- an interaction is on the side, or the relation leads to it from one that is
abbrev pub IsFrom : (ℕ → ℕ → Type 0) → List (ℕ × ℕ) → Side → ℕ → Type 0
IsFrom Up interactions side n =
    (x : ℕ) × (x < length interactions) × IsOn side (interaction_at interactions x) × ((n ≡ x) ⊎ Up x n)

-- what is kept of a rule with these sides: all at or below its left side, and all at or above its right side, by the rules without
-- a condition
pub record IsConditionOf (rules : List Rule) (interactions : List (ℕ × ℕ)) (left right : Side) (c : Condition) : Type 0 where
  pub below : (n : ℕ) → IsTrue (contains c.below n) ↔ IsUpTo (IsBelow (unconditional rules) interactions) interactions left n
  pub above : (n : ℕ) → IsTrue (contains c.above n) ↔ IsFrom (IsBelow (unconditional rules) interactions) interactions right n

-- it is kept of a rule that is written
pub record IsWritten (rules : List Rule) (interactions : List (ℕ × ℕ)) (c : Condition) : Type 0 where
  pub left : Side
  pub right : Side
  pub there : Contains rules (UnderAt left right c.at)
  pub is : IsConditionOf rules interactions left right c

-- a rule is among those that are kept
pub record IsKept (rules : List Rule) (interactions : List (ℕ × ℕ)) (conditions : List Condition) (left right : Side) (at : At) : Type 0 where
  pub condition : Condition
  pub there : Contains conditions condition
  pub same : condition.at ≡ at
  pub is : IsConditionOf rules interactions left right condition

-- those of the rules, and no other
pub record AreConditions (rules : List Rule) (interactions : List (ℕ × ℕ)) (conditions : List Condition) : Type 0 where
  pub each : (c : Condition) → Contains conditions c → IsWritten rules interactions c
  pub all : (left right : Side) (at : At) → Contains rules (UnderAt left right at) → IsKept rules interactions conditions left right at

-- ---- what they tell of a set

-- the condition holds, and something above the rule is a rival or in the set
abbrev pub IsHit : Condition → (At → Bool) → (ℕ → Bool) → (ℕ → Bool) → Type 0
IsHit c holds rivals set = IsTrue (holds c.at) × ((n : ℕ) × IsTrue (contains c.above n) × IsTrue (rivals n || set n))

-- if it is hit, all below the rule is in the set
abbrev pub IsClosedBy : Condition → (At → Bool) → (ℕ → Bool) → (ℕ → Bool) → Type 0
IsClosedBy c holds rivals set = IsHit c holds rivals set → (n : ℕ) → IsTrue (contains c.below n) → IsTrue (set n)

-- the same by each of them
abbrev pub IsClosed : List Condition → (At → Bool) → (ℕ → Bool) → (ℕ → Bool) → Type 0
IsClosed conditions holds rivals set = (c : Condition) → Contains conditions c → IsClosedBy c holds rivals set

-- the least such set
pub record IsLeastClosed (conditions : List Condition) (holds : At → Bool) (rivals set : ℕ → Bool) : Type 0 where
  pub closed : IsClosed conditions holds rivals set
  pub least : (other : ℕ → Bool) → IsClosed conditions holds rivals other → (n : ℕ) → IsTrue (set n) → IsTrue (other n)

-- none of them speaks of a number from the bound on
abbrev pub AreWithin : List Condition → ℕ → Type 0
AreWithin conditions bound = (c : Condition) → Contains conditions c → (n : ℕ) → IsTrue (contains c.below n || contains c.above n) → n < bound

-- ---- the places that they ask for

-- the row shows each place that a rule asks for, bit k of word a for place k of atom a
abbrev pub AreWatched : List Rule → List ℕ → Type 0
AreWatched rules row = (left right : Side) (at : At) → Contains rules (UnderAt left right at) → has_bit (slice_index_or row at.atom 0) at.place ≡ true
