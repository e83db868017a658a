use Rattle.priority_filter.proofs.Counting.{below-all}
use Rattle.priority_filter.proofs.laws.what_counts_is_below.Goals as goal

pub returns : goal.returns
returns c = λ rules interactions holds a b below. below-all rules interactions holds a b below
