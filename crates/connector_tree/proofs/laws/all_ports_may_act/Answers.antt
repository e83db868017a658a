use Rattle.connector_tree.proofs.Algebra.{full_among}
use Rattle.connector_tree.proofs.laws.all_ports_may_act.Goals as goal

pub returns : goal.returns
returns c = full_among
