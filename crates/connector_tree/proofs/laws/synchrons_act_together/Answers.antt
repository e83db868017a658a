use Rattle.connector_tree.proofs.Algebra.{synchrons_together}
use Rattle.connector_tree.proofs.laws.synchrons_act_together.Goals as goal

pub returns : goal.returns
returns c = synchrons_together
