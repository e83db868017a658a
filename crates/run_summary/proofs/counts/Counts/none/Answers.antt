use Rattle.std.proofs.Common.{◌∙◌}
use Rattle.run_summary.proofs.Counting.{counted-none}
use Rattle.run_summary.proofs.counts.Counts.none.Goals as goal

pub returns : goal.returns
returns c = c.in_ok-counts.ensures.items_if_clones_equal (λ x same. same) ∙ counted-none c.args.bound
