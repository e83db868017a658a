use Rattle.priority_filter.proofs.NoDeadlock.{top_is_not_overruled}
use Rattle.priority_filter.proofs.laws.something_is_not_overruled.Goals as goal

pub returns : goal.returns
returns c = λ rules interactions holds possible sound a within is_possible. top_is_not_overruled rules interactions holds possible sound a within is_possible
