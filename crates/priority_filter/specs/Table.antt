-- A table of sets, one for each interaction: row a holds what stands above interaction a.
use Rattle.std.specs.Prelude.{◌≡◌, ℕ, ◌<◌, ◌≤◌, ◌⊎◌, ◌↔◌, true, List, length, slice_index_or, None, IsTrue, if◌then◌else◌}
use Rattle.std.specs.Ordering.{nat_cmp}
use Rattle.std.specs.FinSet.{FinSet, contains, empty, union}
use Rattle.priority_filter.specs.declared.rule.Side.{Side}
use Rattle.priority_filter.specs.declared.rule.Rule.{Rule}
use Rattle.priority_filter.specs.Rule.{IsOn, Puts, IsProperSubset}
use Rattle.priority_filter.specs.Order.{interaction_at, IsBelow}
use Rattle.priority_filter.specs.Decided.{order_fault}
use Rattle.priority_filter.specs.Active.{unconditional}
use Rattle.priority_filter.specs.Conditions.{AreConditions, AreWatched}
use Rattle.priority_filter.specs.declared.condition.Condition.{Condition}
use Rattle.priority_filter.specs.declared.interaction_set.TheConstants.{INTERACTION_LIMIT}

-- row a, which is empty past the table
abbrev pub row_at : List (FinSet nat_cmp) → ℕ → FinSet nat_cmp
row_at rows a = slice_index_or rows a empty

-- row a holds b
abbrev pub Above : List (FinSet nat_cmp) → ℕ → ℕ → Type 0
Above rows a b = IsTrue (contains (row_at rows a) b)

-- the set holds exactly the interactions on the side
abbrev pub IsSideSet : List (ℕ × ℕ) → Side → FinSet nat_cmp → Type 0
IsSideSet interactions side set =
    (b : ℕ) → IsTrue (contains set b) ↔ ((b < length interactions) × IsOn side (interaction_at interactions b))

-- the set holds exactly the interactions of the connector that have the leaves of the mask and more
abbrev pub IsLargerSet : List (ℕ × ℕ) → ℕ → ℕ → FinSet nat_cmp → Type 0
IsLargerSet interactions connector mask set =
    (b : ℕ) → IsTrue (contains set b) ↔ ((b < length interactions) × (((interaction_at interactions b).0 ≡ connector) × IsProperSubset mask (interaction_at interactions b).1))

-- both are interactions of the list, and the rule puts the one below the other
abbrev pub PutsIn : List (ℕ × ℕ) → Rule → ℕ → ℕ → Type 0
PutsIn interactions rule a b =
    (a < length interactions) × (b < length interactions) × Puts rule (interaction_at interactions a) (interaction_at interactions b)

-- the rows gained exactly what the rule puts above
abbrev pub Gains : List (ℕ × ℕ) → Rule → List (FinSet nat_cmp) → List (FinSet nat_cmp) → Type 0
Gains interactions rule old new = (a b : ℕ) → Above new a b ↔ (Above old a b ⊎ PutsIn interactions rule a b)

-- the row with all that stands above the station, if the station is in it
abbrev pub row_through : ℕ → FinSet nat_cmp → FinSet nat_cmp → FinSet nat_cmp
row_through station through row = if contains row station then union row through else row

-- the other table is this one the other way round: row b holds a exactly if row a of this one holds b
abbrev pub AreTurned : List (FinSet nat_cmp) → List (FinSet nat_cmp) → Type 0
AreTurned rows turned = (a b : ℕ) → Above turned b a ↔ Above rows a b

-- the table is the order that the rules without a condition put on the interactions, and all rules are without fault
pub record IsOrderTable (rules : List Rule) (interactions : List (ℕ × ℕ)) (rows : List (FinSet nat_cmp)) : Type 0 where
  pub limit : length interactions ≤ INTERACTION_LIMIT
  pub size : length rows ≡ length interactions
  pub exact : (a b : ℕ) → Above rows a b ↔ IsBelow (unconditional rules) interactions a b
  pub sound : order_fault rules interactions ≡ None

-- no interaction is above one of the set, if all rules count
abbrev pub AreFree : List Rule → List (ℕ × ℕ) → FinSet nat_cmp → Type 0
AreFree rules interactions set = (n : ℕ) → contains set n ≡ true → (b : ℕ) → ¬ IsBelow rules interactions n b

-- what an order keeps: the table, the same the other way round, the interactions that none is above, the rules with a condition, and the places that these ask for
pub record IsOrder (rules : List Rule) (interactions : List (ℕ × ℕ)) (rows turned : List (FinSet nat_cmp)) (unruled : FinSet nat_cmp) (kept : List Condition) (places : List ℕ) : Type 0 where
  pub table : IsOrderTable rules interactions rows
  pub below : AreTurned rows turned
  pub free : AreFree rules interactions unruled
  pub conditions : AreConditions rules interactions kept
  pub watched : AreWatched rules places
