use Rattle.std.proofs.Common.{◌≡◌, ◌<◌, nat_lt, drop}
use Rattle.connector_tree.specs.Tree.{tree_in, depth}
use Rattle.connector_tree.proofs.shape.+deeper.Given as goal

abbrev pub invariant-is_deeper-loop-child : goal.invariant-is_deeper-loop-child
invariant-is_deeper-loop-child l =
    (0 < l.levels) × (nat_lt l.levels (depth (tree_in (drop l.child-index l.children))) ≡ nat_lt l.levels (depth (tree_in l.children)))
