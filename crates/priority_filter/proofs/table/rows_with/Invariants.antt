use Rattle.priority_filter.specs.Table.{Above}
use Rattle.priority_filter.proofs.TableLaws.{HoldsBelow}
use Rattle.priority_filter.proofs.table.rows_with.Given as goal

-- the set has those of the first rows that have the number
abbrev pub invariant-loop-number : goal.invariant-loop-number
invariant-loop-number l = HoldsBelow (λ a. Above l.rows a l.upper) l.number l.found
