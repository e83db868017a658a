use Rattle.plant_model.specs.System.{plant_of}
use Rattle.step_core.specs.Dispatcher.{parts_in, system_of}
use Rattle.step_core.proofs.dispatcher.Dispatcher.find_sure.Goals as goal

pub find-requires : goal.find-requires
find-requires c = c.sure_choices_stand_in_order.ensures (plant_of (system_of c.args.self.now)) (parts_in c.args.self.now)
