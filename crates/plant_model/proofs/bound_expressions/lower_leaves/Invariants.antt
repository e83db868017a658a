use Rattle.std.proofs.Common.{◌≡◌, ◌&&◌, nat_lt, ℕ}
use Rattle.priority_filter.specs.Members.{has_bit}
use Rattle.plant_model.specs.BoundExpressions.{is_lower}
use Rattle.plant_model.proofs.bound_expressions.lower_leaves.Given as goal

abbrev pub invariant-loop-leaf : goal.invariant-loop-leaf
invariant-loop-leaf l = (j : ℕ) → has_bit l.lower j ≡ (nat_lt j l.leaf && is_lower l.ports l.atom j)
