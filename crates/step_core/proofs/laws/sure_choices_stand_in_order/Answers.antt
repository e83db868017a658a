use Rattle.step_core.proofs.InOrder.{sure-rise}
use Rattle.step_core.proofs.laws.sure_choices_stand_in_order.Goals as goal

pub returns : goal.returns
returns c = sure-rise
