use Rattle.priority_filter.proofs.DecidedOrder.{below_inside}
use Rattle.priority_filter.proofs.laws.below_is_within.Goals as goal

pub returns : goal.returns
returns c = λ rules interactions a b below. below_inside rules interactions a b below
