use Rattle.step_executor.specs.Executing.{committed_in, plant_in, system_in}
use Rattle.plant_model.specs.System.{digest_of}
use Rattle.plant_core.proofs.AtRest.{stands-now}
use Rattle.plant_core.proofs.plant.Plant.stands.Goals as goal

pub returns : goal.returns
returns g c = λ keeps whole cells may.
    let self = c.args.self.now in
    stands-now (plant_in self.executor) (digest_of (system_in self.executor)) self.journal (committed_in self.executor) self.acked_counts self.number self.snapshots.saved self.cells (self.at_rest keeps whole) cells may
