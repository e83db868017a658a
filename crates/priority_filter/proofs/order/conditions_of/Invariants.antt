use Rattle.priority_filter.proofs.Keeping.{HasFirst}
use Rattle.priority_filter.proofs.order.conditions_of.Given as goal

abbrev pub invariant-loop-k : goal.invariant-loop-k
invariant-loop-k l = HasFirst l.rules l.interactions l.k l.conditions.items
