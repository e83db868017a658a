use Rattle.priority_filter.specs.declared.rule.Rule.TheVariants.{Maximal}
use Rattle.priority_filter.proofs.TableLaws.{GainsBelow}
use Rattle.priority_filter.proofs.table.add_maximal.Given as goal

abbrev pub invariant-loop-a : goal.invariant-loop-a
invariant-loop-a l = GainsBelow l.interactions (Maximal l.connector) l.a l.initial.rows l.rows
