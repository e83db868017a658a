use Rattle.connector_tree.proofs.OneTree.{one_tree}
use Rattle.connector_tree.proofs.laws.tokens_are_of_one_tree.Goals as goal

pub returns : goal.returns
returns c = one_tree
