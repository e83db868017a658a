use Rattle.std.proofs.Common.{◌≡◌, ◌+◌, ◌≤◌, ◌++◌, length, drop}
use Rattle.connector_tree.specs.Tree.{tree_in, leaves}
use Rattle.connector_tree.specs.declared.tree.TheConstants.{MAX_LEAVES}
use Rattle.connector_tree.proofs.row.+gather.Given as goal

abbrev pub invariant-gather-loop-child : goal.invariant-gather-loop-child
invariant-gather-loop-child l = record {
  room : length l.found + length (leaves (tree_in (drop l.child-index l.children))) ≤ MAX_LEAVES;
  so_far : l.found ++ leaves (tree_in (drop l.child-index l.children)) ≡ l.initial.found ++ leaves (tree_in l.children);
}
