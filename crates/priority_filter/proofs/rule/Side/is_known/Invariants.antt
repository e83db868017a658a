use Rattle.std.proofs.Common.{ℕ, ◌<◌}
use Rattle.priority_filter.specs.Rule.{IsOn}
use Rattle.priority_filter.specs.Order.{interaction_at}
use Rattle.priority_filter.proofs.rule.Side.is_known.Given as goal

abbrev pub invariant-loop-i : goal.invariant-loop-i
invariant-loop-i l = (a : ℕ) → a < l.i → ¬ IsOn l.self (interaction_at l.interactions a)
