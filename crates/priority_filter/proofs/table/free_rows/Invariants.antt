use Rattle.std.proofs.Common.{◌≡◌, ℕ, true}
use Rattle.std.specs.FinSet.{contains}
use Rattle.priority_filter.specs.Table.{Above}
use Rattle.priority_filter.proofs.table.free_rows.Given as goal

abbrev pub invariant-loop-number : goal.invariant-loop-number
invariant-loop-number l = (n : ℕ) → contains l.free n ≡ true → (b : ℕ) → ¬ Above l.rows n b
