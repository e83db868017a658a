use Rattle.priority_filter.proofs.Counting.{strict-counted}
use Rattle.priority_filter.proofs.laws.a_written_order_is_strict_in_every_state.Goals as goal

pub returns : goal.returns
returns c = λ rules interactions holds strict. strict-counted rules interactions holds strict
