use Rattle.priority_filter.proofs.Keeping.{HasFrom}
use Rattle.priority_filter.proofs.table.from_side.Given as goal

abbrev pub invariant-loop-number : goal.invariant-loop-number
invariant-loop-number l = HasFrom l.rows l.on l.number l.found
