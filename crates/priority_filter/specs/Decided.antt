-- The order as it is computed: tests and searches that answer what the relations of Rule and Order say.
use Rattle.std.specs.Prelude.{ℕ, zero, suc, ◌==◌, nat_lt, Bool, not, ◌&&◌, ◌||◌, List, length, Option, Some, None, bit_and}
use Rattle.std.specs.List.{list_any, find, range_with_len}
use Rattle.priority_filter.specs.declared.rule.Side.{Side}
use Rattle.priority_filter.specs.declared.rule.Side.TheVariants.{Whole, One}
use Rattle.priority_filter.specs.declared.rule.Rule.{Rule}
use Rattle.priority_filter.specs.declared.rule.Rule.TheVariants.{Under, UnderAt, Maximal}
use Rattle.priority_filter.specs.declared.seen.At.{At}
use Rattle.priority_filter.specs.declared.seen.TheConstants.{SEEN_ATOMS, SEEN_PLACES}
use Rattle.priority_filter.specs.declared.fault.OrderFault.{OrderFault}
use Rattle.priority_filter.specs.declared.fault.OrderFault.TheVariants.{Cycle, UnknownName}
use Rattle.priority_filter.specs.Order.{interaction_at, rule_at}

-- ---- what one rule says

-- whether the interaction is on the side: one of the whole connector, or the one that is named
abbrev pub is_on : Side → ℕ × ℕ → Bool
is_on (Whole connector) i = i.0 == connector
is_on (One connector mask) i = (i.0 == connector) && (i.1 == mask)

-- whether each leaf of the first mask is one of the second, and the masks differ
abbrev pub is_proper_subset : ℕ → ℕ → Bool
is_proper_subset m n = (bit_and m n == m) && not (m == n)

-- whether the rule puts the first interaction below the second
abbrev pub puts : Rule → ℕ × ℕ → ℕ × ℕ → Bool
puts (Under left right) i j = is_on left i && is_on right j
puts (UnderAt left right at) i j = is_on left i && is_on right j
puts (Maximal connector) i j = (i.0 == connector) && ((j.0 == connector) && is_proper_subset i.1 j.1)

-- whether both numbers are of the list, and some rule puts the one below the other
abbrev pub is_rule_step : List Rule → List (ℕ × ℕ) → ℕ → ℕ → Bool
is_rule_step rules interactions a b =
    (nat_lt a (length interactions) && nat_lt b (length interactions))
    && list_any (λ rule. puts rule (interaction_at interactions a) (interaction_at interactions b)) rules

-- ---- chains

-- whether a chain whose stations are all below k leads from a to b: through no station it is one step, and
-- through stations below suc k it does not come by k, or it leads to k and on from k
abbrev pub leads_below : (ℕ → ℕ → Bool) → ℕ → ℕ → ℕ → Bool
leads_below step zero a b = step a b
leads_below step (suc k) a b = leads_below step k a b || (leads_below step k a k && leads_below step k k b)

-- whether interaction a is below interaction b: a chain of rule steps leads from a to b
unfoldable pub is_below : List Rule → List (ℕ × ℕ) → ℕ → ℕ → Bool
is_below rules interactions = leads_below (is_rule_step rules interactions) (length interactions)

-- whether some number of the list that passes the test is above interaction a
unfoldable pub is_overruled : List Rule → List (ℕ × ℕ) → (ℕ → Bool) → ℕ → Bool
is_overruled rules interactions possible a =
    list_any (λ b. possible b && is_below rules interactions a b) (range_with_len 0 (length interactions))

-- ---- faults

-- the least number below n that passes the test
abbrev pub least_below : ℕ → (ℕ → Bool) → Option ℕ
least_below n test = find test (range_with_len 0 n)

-- whether some interaction of the list is on the side
abbrev pub is_known_side : List (ℕ × ℕ) → Side → Bool
is_known_side interactions side = list_any (is_on side) interactions

-- whether the atom and the place of a condition are among those that a row can show
abbrev pub is_known_place : At → Bool
is_known_place at = nat_lt at.atom SEEN_ATOMS && nat_lt at.place SEEN_PLACES

-- whether all that the rule names is in the list, and its condition can be shown
abbrev pub is_known : List (ℕ × ℕ) → Rule → Bool
is_known interactions (Under left right) = is_known_side interactions left && is_known_side interactions right
is_known interactions (UnderAt left right at) = is_known_side interactions left && is_known_side interactions right && is_known_place at
is_known interactions (Maximal connector) = is_known_side interactions (Whole connector)

-- the index of the first rule that names something which is not in the list
abbrev pub first_unknown : List Rule → List (ℕ × ℕ) → Option ℕ
first_unknown rules interactions = least_below (length rules) (λ k. not (is_known interactions (rule_at rules k)))

-- the least number of an interaction that is below itself
abbrev pub first_cyclic : List Rule → List (ℕ × ℕ) → Option ℕ
first_cyclic rules interactions = least_below (length interactions) (λ a. is_below rules interactions a a)

-- an unknown name comes before a cycle
abbrev pub fault_from : Option ℕ → Option ℕ → Option OrderFault
fault_from (Some rule) cyclic = Some (UnknownName rule)
fault_from None (Some interaction) = Some (Cycle interaction)
fault_from None None = None

-- why the rules put no order on the interactions, if they put none: the first unknown name, or else the first cycle
unfoldable pub order_fault : List Rule → List (ℕ × ℕ) → Option OrderFault
order_fault rules interactions = fault_from (first_unknown rules interactions) (first_cyclic rules interactions)
