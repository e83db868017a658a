use Rattle.connector_tree.proofs.Algebra.{flatten}
use Rattle.connector_tree.proofs.laws.synchrons_flatten.Goals as goal

pub returns : goal.returns
returns c = flatten
