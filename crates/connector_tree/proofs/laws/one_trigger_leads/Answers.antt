use Rattle.connector_tree.proofs.Algebra.{one_trigger}
use Rattle.connector_tree.proofs.laws.one_trigger_leads.Goals as goal

pub returns : goal.returns
returns c = one_trigger
