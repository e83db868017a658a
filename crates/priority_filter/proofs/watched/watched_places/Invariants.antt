use Rattle.std.proofs.Common.{◌≡◌, ℕ, ◌<◌, true, slice_index_or}
use Rattle.priority_filter.specs.declared.rule.Side.{Side}
use Rattle.priority_filter.specs.declared.rule.Rule.TheVariants.{UnderAt}
use Rattle.priority_filter.specs.declared.seen.At.{At}
use Rattle.priority_filter.specs.Members.{has_bit}
use Rattle.priority_filter.specs.Order.{rule_at}
use Rattle.priority_filter.proofs.watched.watched_places.Given as goal

-- the row shows the places of the rules so far
abbrev pub invariant-loop-k : goal.invariant-loop-k
invariant-loop-k l = (j : ℕ) (left right : Side) (at : At) → j < l.k → rule_at l.rules j ≡ UnderAt left right at → has_bit (slice_index_or l.watched at.atom 0) at.place ≡ true
