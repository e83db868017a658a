use Rattle.std.proofs.Common.{◌+◌, ◌*◌}
use Rattle.petri_atom.specs.Expression.{tree_of, word_count}
use Rattle.petri_atom.proofs.coding.+push.Given as goal

abbrev pub decreases-last_step : goal.decreases-last_step
decreases-last_step l = 3 * word_count (tree_of l.expression.now)

abbrev pub decreases-push_operand : goal.decreases-push_operand
decreases-push_operand l = 3 * word_count (tree_of l.expression.now) + 1

abbrev pub decreases-push_operands : goal.decreases-push_operands
decreases-push_operands l = 3 * word_count (tree_of l.left.now) + 3 * word_count (tree_of l.right.now) + 2
