use Rattle.connector_tree.proofs.TokenFaults.{fault-tree}
use Rattle.connector_tree.proofs.laws.tokens_have_the_fault.Goals as goal

pub returns : goal.returns
returns c = fault-tree
