use Rattle.std.proofs.Common.{nat_lt, ap, sym, ◌∙◌}
use Rattle.connector_tree.specs.Tree.{branch_of, branch_depth, tree_in, depth}
use Rattle.connector_tree.proofs.Trees.{branch-fusion}
use Rattle.connector_tree.proofs.shape.+deeper.Goals as goal

pub is_node_deeper-returns-in-Fusion : goal.is_node_deeper-returns-in-Fusion
is_node_deeper-returns-in-Fusion t c =
    let same = ap (λ node. branch_depth (branch_of node)) c.in-Fusion.is ∙ ap branch_depth (branch-fusion c.in-Fusion.children) ∙ ap (λ items. depth (tree_in items)) (sym c.deref.ensures.value) in
    c.is_deeper.ensures ∙ ap (nat_lt c.args.levels) (sym same)
