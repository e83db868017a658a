use Rattle.std.proofs.Common.{ℕ, ◌<◌}
use Rattle.priority_filter.specs.Order.{IsKnown, rule_at}
use Rattle.priority_filter.proofs.order.first_unknown.Given as goal

abbrev pub invariant-loop-k : goal.invariant-loop-k
invariant-loop-k l = (j : ℕ) → j < l.k → IsKnown l.interactions (rule_at l.rules j)
