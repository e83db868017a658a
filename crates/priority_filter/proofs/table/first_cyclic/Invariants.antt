use Rattle.std.proofs.Common.{ℕ, ◌<◌}
use Rattle.priority_filter.specs.Table.{Above}
use Rattle.priority_filter.proofs.table.first_cyclic.Given as goal

abbrev pub invariant-loop-number : goal.invariant-loop-number
invariant-loop-number l = (b : ℕ) → b < l.number → ¬ Above l.rows b b
