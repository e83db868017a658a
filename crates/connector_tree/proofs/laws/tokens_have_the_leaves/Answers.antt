use Rattle.connector_tree.proofs.TokenLeaves.{ports-tree}
use Rattle.connector_tree.proofs.laws.tokens_have_the_leaves.Goals as goal

pub returns : goal.returns
returns c = ports-tree
