use Rattle.priority_filter.proofs.NoDeadlock.{has_top}
use Rattle.priority_filter.proofs.laws.priorities_bring_no_deadlock.Goals as goal

pub returns : goal.returns
returns c = λ rules interactions possible strict a is_possible. has_top rules interactions possible strict a is_possible
