-- The leaf is sought among the children from this one on, by the number that is left.
use Rattle.std.proofs.Common.{◌≡◌, drop}
use Rattle.connector_tree.specs.Tree.{tree_in, leaves}
use Rattle.part_text.specs.Sought.{sought}
use Rattle.part_text.proofs.leaf.+seek.Given as goal

abbrev pub invariant-seek-loop-child : goal.invariant-seek-loop-child
invariant-seek-loop-child l = sought l.left (leaves (tree_in (drop l.child-index l.children))) ≡ sought l.number (leaves (tree_in l.children))
