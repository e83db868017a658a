use Rattle.std.proofs.Common.{◌≡◌}
use Rattle.priority_filter.specs.Rule.{IsProperSubset}
use Rattle.priority_filter.specs.Order.{interaction_at}
use Rattle.priority_filter.proofs.TableLaws.{HoldsBelow}
use Rattle.priority_filter.proofs.table.larger.Given as goal

abbrev pub invariant-loop-upper : goal.invariant-loop-upper
invariant-loop-upper l =
    HoldsBelow (λ b. ((interaction_at l.interactions b).0 ≡ l.connector) × IsProperSubset l.leaves (interaction_at l.interactions b).1) l.upper l.found
