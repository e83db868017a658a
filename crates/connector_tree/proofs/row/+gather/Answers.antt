use Rattle.std.proofs.Common.{◌∙◌, ◌++◌, ap, sym}
use Rattle.connector_tree.proofs.Trees.{leaves-leaf}
use Rattle.connector_tree.proofs.row.+gather.Goals as goal

pub gather_node-returns-in-Leaf : goal.gather_node-returns-in-Leaf
gather_node-returns-in-Leaf t c =
    c.push.ensures ∙ ap (λ more. c.args.found.now ++ more) (sym (leaves-leaf c.args.node.now c.in-Leaf.atom c.in-Leaf.port c.in-Leaf.is))
