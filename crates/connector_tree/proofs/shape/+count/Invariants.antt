use Rattle.std.proofs.Common.{◌≡◌, ◌+◌, ◌≤◌, min, length, drop}
use Rattle.connector_tree.specs.Tree.{tree_in, leaves}
use Rattle.connector_tree.specs.declared.tree.TheConstants.{MAX_LEAVES}
use Rattle.connector_tree.proofs.shape.+count.Given as goal

abbrev pub invariant-count_leaves-loop-child : goal.invariant-count_leaves-loop-child
invariant-count_leaves-loop-child l = record {
  small : l.count ≤ MAX_LEAVES + 1;
  so_far : min (l.count + length (leaves (tree_in (drop l.child-index l.children)))) (MAX_LEAVES + 1) ≡ min (length (leaves (tree_in l.children))) (MAX_LEAVES + 1);
}
