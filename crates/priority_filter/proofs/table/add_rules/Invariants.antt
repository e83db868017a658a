use Rattle.std.proofs.Common.{◌≡◌, length}
use Rattle.priority_filter.proofs.TableLaws.{StepsBelow}
use Rattle.priority_filter.proofs.table.add_rules.Given as goal

-- the table has the steps of the rules so far
abbrev pub invariant-loop-k : goal.invariant-loop-k
invariant-loop-k l = record {
  size : length l.rows ≡ length l.interactions;
  steps : StepsBelow l.rules l.interactions l.k l.rows;
}
