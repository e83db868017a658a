use Rattle.priority_filter.proofs.Counting.{below-more}
use Rattle.priority_filter.proofs.laws.more_counts_more.Goals as goal

pub returns : goal.returns
returns c = λ rules interactions holds more a b weaker below. below-more rules interactions holds more weaker a b below
