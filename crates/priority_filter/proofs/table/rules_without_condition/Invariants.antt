use Rattle.std.proofs.Common.{◌≡◌, take}
use Rattle.priority_filter.specs.Active.{unconditional}
use Rattle.priority_filter.proofs.table.rules_without_condition.Given as goal

abbrev pub invariant-loop-rule : goal.invariant-loop-rule
invariant-loop-rule l = l.kept.items ≡ unconditional (take l.rule-index l.rules)
