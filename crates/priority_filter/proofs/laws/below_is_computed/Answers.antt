use Rattle.priority_filter.proofs.DecidedOrder.{decides_below}
use Rattle.priority_filter.proofs.laws.below_is_computed.Goals as goal

pub returns : goal.returns
returns c = λ rules interactions a b. decides_below rules interactions a b
