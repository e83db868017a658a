use Rattle.std.proofs.Common.{sym, subst}
use Rattle.step_executor.specs.Executing.{plant_in}
use Rattle.plant_model.specs.Runs.{IsRun}
use Rattle.plant_core.specs.Plants.{view_of}
use Rattle.plant_core.proofs.Chosen.{run-from}
use Rattle.plant_core.proofs.plant.Plant.tail_is_a_run.Goals as goal

pub returns : goal.returns
returns g c =
    let self = c.args.self.now in
    let plant = plant_in self.executor in
    let v = view_of self in
    subst (λ end. IsRun plant v.acked v.tail end) (sym self.fits_together.leads) (run-from plant v.tail v.acked self.fits_together.run)
