use Rattle.std.proofs.Common.{ap, sym, ◌∙◌}
use Rattle.connector_tree.specs.Tree.{branch_of, tree_in, has_empty, is_empty_inside}
use Rattle.connector_tree.proofs.Trees.{branch-fusion}
use Rattle.connector_tree.proofs.shape.+empty.Goals as goal

pub is_node_empty-returns-in-Fusion : goal.is_node_empty-returns-in-Fusion
is_node_empty-returns-in-Fusion t c =
    let same = ap (λ node. is_empty_inside (branch_of node)) c.in-Fusion.is ∙ ap is_empty_inside (branch-fusion c.in-Fusion.children) ∙ ap (λ items. has_empty (tree_in items)) (sym c.deref.ensures.value) in
    c.has_empty.ensures ∙ sym same
