use Rattle.std.proofs.Common.{◌≡◌, take}
use Rattle.priority_filter.specs.Active.{active, may_be_marked}
use Rattle.priority_filter.proofs.table.active_rules.Given as goal

abbrev pub invariant-loop-rule : goal.invariant-loop-rule
invariant-loop-rule l = l.kept.items ≡ active (may_be_marked l.seen) (take l.rule-index l.rules)
