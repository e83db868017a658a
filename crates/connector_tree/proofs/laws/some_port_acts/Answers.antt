use Rattle.connector_tree.proofs.Algebra.{never_empty}
use Rattle.connector_tree.proofs.laws.some_port_acts.Goals as goal

pub returns : goal.returns
returns c = never_empty
