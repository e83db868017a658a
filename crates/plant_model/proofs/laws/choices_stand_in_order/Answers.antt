use Rattle.plant_model.proofs.InOrder.{choices-rise, stands-once}
use Rattle.plant_model.proofs.laws.choices_stand_in_order.Goals as goal

pub returns-clause-order : goal.returns-clause-order
returns-clause-order c = choices-rise

pub returns-clause-once : goal.returns-clause-once
returns-clause-once c = stands-once
