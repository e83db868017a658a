use Rattle.priority_filter.proofs.DecidedOrder.{decides_overruled}
use Rattle.priority_filter.proofs.laws.overruled_is_computed.Goals as goal

pub returns : goal.returns
returns c = λ rules interactions possible a. decides_overruled rules interactions possible a
