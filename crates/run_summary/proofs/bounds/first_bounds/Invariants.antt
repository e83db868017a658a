-- The variables before this place have their first values.
use Rattle.std.proofs.Common.{◌≡◌, [], take}
use Rattle.run_summary.specs.Totals.{bounds_from}
use Rattle.run_summary.proofs.bounds.first_bounds.Given as goal

abbrev pub invariant-loop-variable : goal.invariant-loop-variable
invariant-loop-variable l = l.bounds.items ≡ bounds_from 0 (take l.variable-index l.variables) []
