use Rattle.priority_filter.specs.Rule.{IsOn}
use Rattle.priority_filter.specs.Order.{interaction_at}
use Rattle.priority_filter.proofs.TableLaws.{HoldsBelow}
use Rattle.priority_filter.proofs.table.on_side.Given as goal

abbrev pub invariant-loop-b : goal.invariant-loop-b
invariant-loop-b l = HoldsBelow (λ b. IsOn l.side (interaction_at l.interactions b)) l.b l.found
