use Rattle.std.proofs.Common.{◌≡◌, ◌+◌, take, drop}
use Rattle.connector_tree.specs.Tree.{tree_in}
use Rattle.connector_tree.specs.Walk.{seen_children, count_all}
use Rattle.connector_tree.proofs.FromTree.{candidates}
use Rattle.connector_tree.proofs.walk.+masks.Given as goal

abbrev pub invariant-children_masks-loop-child : goal.invariant-children_masks-loop-child
invariant-children_masks-loop-child l =
    let before = seen_children (tree_in (take l.child-index l.children)) in
    record {
      at : l.at ≡ count_all before;
      room : l.at + count_all (seen_children (tree_in (drop l.child-index l.children))) ≡ count_all (seen_children (tree_in l.children));
      candidates : l.candidates.items ≡ candidates l.triggers before;
    }
