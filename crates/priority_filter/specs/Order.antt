-- The order that rules put on a list of interactions, which are named by their numbers in the list.
use Rattle.std.specs.Prelude.{ℕ, ◌<◌, List, [], ◌∷◌, length, slice_index_or}
use Rattle.priority_filter.specs.declared.rule.Side.{Side}
use Rattle.priority_filter.specs.declared.rule.Side.TheVariants.{Whole}
use Rattle.priority_filter.specs.declared.rule.Rule.{Rule}
use Rattle.priority_filter.specs.declared.rule.Rule.TheVariants.{Under, UnderAt, Maximal}
use Rattle.priority_filter.specs.declared.seen.At.{At}
use Rattle.priority_filter.specs.declared.seen.TheConstants.{SEEN_ATOMS, SEEN_PLACES}
use Rattle.priority_filter.specs.Rule.{IsOn, Puts}

-- the rules and the interactions that an order was made from
pub record Priorities : Type 0 where
  pub rules : List Rule
  pub interactions : List (ℕ × ℕ)

-- the interaction with this number
abbrev pub interaction_at : List (ℕ × ℕ) → ℕ → ℕ × ℕ
interaction_at interactions a = slice_index_or interactions a (0, 0)

-- the rule with this index
abbrev pub rule_at : List Rule → ℕ → Rule
rule_at rules k = slice_index_or rules k (Under (Whole 0) (Whole 0))

-- one written rule puts interaction a below interaction b
pub record IsRuleStep (rules : List Rule) (interactions : List (ℕ × ℕ)) (a b : ℕ) : Type 0 where
  pub from : a < length interactions
  pub to : b < length interactions
  pub rule : ℕ
  pub written : rule < length rules
  pub puts : Puts (rule_at rules rule) (interaction_at interactions a) (interaction_at interactions b)

-- steps lead from a to the first station, from each station to the next, and from the last to b
abbrev pub Chain : (ℕ → ℕ → Type 0) → ℕ → List ℕ → ℕ → Type 0
Chain Step a [] b = Step a b
Chain Step a (station ∷ stations) b = Step a station × Chain Step station stations b

-- some chain of steps, one at least, leads from a to b
pub record Leads (Step : ℕ → ℕ → Type 0) (a b : ℕ) : Type 0 where
  pub stations : List ℕ
  pub chain : Chain Step a stations b

-- interaction a is below interaction b: a chain of rule steps leads from a to b
abbrev pub IsBelow : List Rule → List (ℕ × ℕ) → ℕ → ℕ → Type 0
IsBelow rules interactions a b = Leads (IsRuleStep rules interactions) a b

-- no interaction is below itself
abbrev pub IsStrict : List Rule → List (ℕ × ℕ) → Type 0
IsStrict rules interactions = (a : ℕ) → ¬ IsBelow rules interactions a a

-- interaction a is the first that is below itself
pub record IsFirstCyclic (rules : List Rule) (interactions : List (ℕ × ℕ)) (a : ℕ) : Type 0 where
  pub cyclic : IsBelow rules interactions a a
  pub before : (b : ℕ) → b < a → ¬ IsBelow rules interactions b b

-- some interaction of the list is on the side
abbrev pub IsKnownSide : List (ℕ × ℕ) → Side → Type 0
IsKnownSide interactions side =
    (a : ℕ) × (a < length interactions) × IsOn side (interaction_at interactions a)

-- the atom and the place of a condition are among those that a row can show
abbrev pub IsKnownPlace : At → Type 0
IsKnownPlace at = (at.atom < SEEN_ATOMS) × (at.place < SEEN_PLACES)

-- what the rule names is in the list, and its condition can be shown
abbrev pub IsKnown : List (ℕ × ℕ) → Rule → Type 0
IsKnown interactions (Under left right) = IsKnownSide interactions left × IsKnownSide interactions right
IsKnown interactions (UnderAt left right at) = IsKnownSide interactions left × IsKnownSide interactions right × IsKnownPlace at
IsKnown interactions (Maximal connector) = IsKnownSide interactions (Whole connector)

-- what each rule names is in the list
abbrev pub AreKnown : List Rule → List (ℕ × ℕ) → Type 0
AreKnown rules interactions = (k : ℕ) → k < length rules → IsKnown interactions (rule_at rules k)

-- the rule with index k is the first that names something which is not in the list
pub record IsFirstUnknown (rules : List Rule) (interactions : List (ℕ × ℕ)) (k : ℕ) : Type 0 where
  pub within : k < length rules
  pub unknown : ¬ IsKnown interactions (rule_at rules k)
  pub before : (j : ℕ) → j < k → IsKnown interactions (rule_at rules j)
