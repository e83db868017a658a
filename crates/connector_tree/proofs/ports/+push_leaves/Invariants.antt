use Rattle.std.proofs.Common.{◌≡◌, ◌++◌, drop}
use Rattle.connector_tree.specs.Tree.{tree_in, leaves}
use Rattle.connector_tree.proofs.ports.+push_leaves.Given as goal

abbrev pub invariant-push_leaves-loop-child : goal.invariant-push_leaves-loop-child
invariant-push_leaves-loop-child l =
    l.ports.items ++ leaves (tree_in (drop l.child-index l.children)) ≡ l.initial.ports.items ++ leaves (tree_in l.children)
