use Rattle.std.proofs.Common.{◌∙◌, ◌++◌, ap, sym}
use Rattle.connector_tree.specs.Tree.{tree_in, leaves}
use Rattle.connector_tree.proofs.Trees.{leaves-fusion}
use Rattle.connector_tree.proofs.ports.+push_leaves.Goals as goal

pub push_node-returns-in_ok-push_leaves-in-Fusion : goal.push_node-returns-in_ok-push_leaves-in-Fusion
push_node-returns-in_ok-push_leaves-in-Fusion t c =
    c.in_ok-push_leaves-in-Fusion.ensures
    ∙ ap (λ items. c.args.ports.now.items ++ leaves (tree_in items)) c.deref.ensures.value
    ∙ ap (λ more. c.args.ports.now.items ++ more) (sym (leaves-fusion c.args.node.now c.in-Fusion.children c.in-Fusion.is))
