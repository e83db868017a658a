use Rattle.step_core.specs.Running.{plant_in, states_in}
use Rattle.step_core.proofs.stepper.Stepper.find.Goals as goal

pub find-requires : goal.find-requires
find-requires c = c.choices_stand_in_order.ensures.order (plant_in c.args.self.now) (states_in c.args.self.now)
