-- Which rules count when some places are marked.
use Rattle.std.specs.Prelude.{◌≡◌, Bool, true, false, not, ◌||◌, List, filter, slice_get, Contains}
use Rattle.std.specs.Option.{option_map_or}
use Rattle.priority_filter.specs.declared.rule.Side.{Side}
use Rattle.priority_filter.specs.declared.rule.Rule.{Rule}
use Rattle.priority_filter.specs.declared.rule.Rule.TheVariants.{Under, UnderAt, Maximal}
use Rattle.priority_filter.specs.declared.seen.At.{At}
use Rattle.priority_filter.specs.declared.seen.Seen.{Seen}
use Rattle.priority_filter.specs.Members.{has_bit}

-- a rule counts if it has no condition, or its condition holds
abbrev pub is_active : (At → Bool) → Rule → Bool
is_active holds (Under left right) = true
is_active holds (UnderAt left right at) = holds at
is_active holds (Maximal connector) = true

-- the rules that count
abbrev pub active : (At → Bool) → List Rule → List Rule
active holds rules = filter (is_active holds) rules

-- the rules that count whatever is marked: those without a condition
abbrev pub unconditional : List Rule → List Rule
unconditional rules = active (λ _. false) rules

-- the place is marked as far as is seen: one of an atom of which nothing is known may be, and one of an atom that no row shows is not
abbrev pub may_be_marked : List Seen → At → Bool
may_be_marked seen at = option_map_or (λ s. not s.known || has_bit s.places at.place) (slice_get seen at.atom) false

-- two tests say the same of each place that a rule asks for
abbrev pub AskAlike : List Rule → (At → Bool) → (At → Bool) → Type 0
AskAlike rules test other = (left right : Side) (at : At) → Contains rules (UnderAt left right at) → test at ≡ other at
