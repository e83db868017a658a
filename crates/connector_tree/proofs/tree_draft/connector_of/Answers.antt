use Rattle.connector_tree.proofs.Levels.{next_level}
use Rattle.connector_tree.proofs.tree_draft.connector_of.Goals as goal
use Rattle.connector_tree.specs.TreeDrafts.{level_of}

pub add-requires : goal.add-requires
add-requires c = next_level c.loop-token.token-index (level_of c.loop-token.draft) c.args.tokens.now _ c.loop-token-test.true c.loop-token.invariant.balanced
