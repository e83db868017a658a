use Rattle.connector_tree.proofs.Drafting.{bracket_made}
use Rattle.connector_tree.proofs.tree_draft.Draft.end_bracket.Goals as goal

pub returns-clause-tokens : goal.returns-clause-tokens
returns-clause-tokens c =
    bracket_made c.args.self.now.outer.items c.pop.new.self.items c.pop.result c.unwrap-around.result c.replace-inner.new.dest c.args.self.now.children c.replace-inner.result
    c.args.trigger c.push.new.self.items c.pop.ensures.items c.unwrap-around.ensures c.replace-inner.ensures.value c.replace-inner.ensures.after c.in_ok-push.ensures.items
