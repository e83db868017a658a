use Rattle.std.proofs.Common.{◌≡◌, ℕ, vec_len, vec_capacity}
use Rattle.std.specs.FinSet.{empty}
use Rattle.priority_filter.specs.Table.{row_at}
use Rattle.priority_filter.proofs.table.empty_table.Given as goal

abbrev pub invariant-loop-i : goal.invariant-loop-i
invariant-loop-i l = record {
  size : vec_len l.rows ≡ l._i;
  room : vec_capacity l.rows ≡ l.size;
  blank : (a : ℕ) → row_at l.rows.items a ≡ empty;
}
