use Rattle.trimmer.specs.Covered.{is_covered}
use Rattle.trimmer.proofs.Fronts.{covered_is_short, short_is_covered}
use Rattle.trimmer.proofs.laws.the_cut_is_the_longest_covered_front.Goals as goal

pub returns : goal.returns
returns c saved records k within = (covered_is_short (is_covered saved) records k within, short_is_covered (is_covered saved) records k)
