use Rattle.priority_filter.specs.declared.rule.Rule.TheVariants.{Under}
use Rattle.priority_filter.proofs.TableLaws.{GainsBelow}
use Rattle.priority_filter.proofs.table.add_under.Given as goal

abbrev pub invariant-loop-a : goal.invariant-loop-a
invariant-loop-a l = GainsBelow l.interactions (Under l.left l.fn.right) l.a l.initial.rows l.rows
