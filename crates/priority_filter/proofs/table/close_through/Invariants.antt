use Rattle.std.proofs.Common.{◌≡◌, ℕ, ◌<◌, ◌≤◌}
use Rattle.priority_filter.specs.Table.{row_at, row_through}
use Rattle.priority_filter.proofs.table.close_through.Given as goal

-- the rows so far go through the station, and the others are as they were
abbrev pub invariant-loop-a : goal.invariant-loop-a
invariant-loop-a l = record {
  done : (a : ℕ) → a < l.a → row_at l.rows a ≡ row_through l.station (row_at l.initial.rows l.station) (row_at l.initial.rows a);
  rest : (a : ℕ) → l.a ≤ a → row_at l.rows a ≡ row_at l.initial.rows a;
}
