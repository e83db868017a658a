use Rattle.std.proofs.Common.{ℕ, ◌<◌}
use Rattle.priority_filter.specs.Order.{Leads}
use Rattle.priority_filter.specs.Table.{Above}
use Rattle.priority_filter.proofs.Chains.{ClosedThrough}
use Rattle.priority_filter.proofs.table.close.Given as goal

-- the table has chains alone, each step, and is closed through each station so far
abbrev pub invariant-loop-station : goal.invariant-loop-station
invariant-loop-station l = record {
  sound : (a b : ℕ) → Above l.rows a b → Leads (Above l.initial.rows) a b;
  keeps : (a b : ℕ) → Above l.initial.rows a b → Above l.rows a b;
  closed : (s : ℕ) → s < l.station → ClosedThrough (Above l.rows) s;
}
