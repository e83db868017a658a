use Rattle.step_executor.specs.Executing.{plant_in, system_in}
use Rattle.plant_model.specs.System.{digest_of}
use Rattle.disk_model.specs.DiskState.{size_of}
use Rattle.plant_core.specs.Plants.{view_of}
use Rattle.plant_core.proofs.AtRest.{of-front}
use Rattle.plant_core.proofs.plant.Plant.stands_for_a_front.Goals as goal

pub returns : goal.returns
returns g c = λ keeps cells may.
    let self = c.args.self.now in
    of-front (plant_in self.executor) (digest_of (system_in self.executor)) (size_of self.cells) (view_of self) cells (self.at_a_stop keeps cells may)
