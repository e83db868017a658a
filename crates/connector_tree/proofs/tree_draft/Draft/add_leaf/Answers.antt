use Rattle.connector_tree.proofs.Drafting.{leaf_made}
use Rattle.connector_tree.proofs.tree_draft.Draft.add_leaf.Goals as goal

pub returns-clause-tokens : goal.returns-clause-tokens
returns-clause-tokens c = leaf_made c.args.self.now.outer.items c.args.self.now.children.items c.push.new.self.items c.args.port.atom c.args.port.port c.args.trigger c.in_ok-push.ensures.items
