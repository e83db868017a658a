use Rattle.std.proofs.Common.{◌≡◌, drop}
use Rattle.connector_tree.specs.Tree.{tree_in, has_empty_bracket}
use Rattle.connector_tree.proofs.shape.+empty.Given as goal

abbrev pub invariant-has_empty-loop-child : goal.invariant-has_empty-loop-child
invariant-has_empty-loop-child l =
    has_empty_bracket (tree_in (drop l.child-index l.children)) ≡ has_empty_bracket (tree_in l.children)
