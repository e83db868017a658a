use Rattle.plant_model.specs.System.{plant_of}
use Rattle.plant_model.proofs.NoDeadlock.{none-where-stuck}
use Rattle.step_core.proofs.Judged.{total-is}
use Rattle.step_core.proofs.stepper.Stepper.count.Goals as goal

pub returns-clause-count : goal.returns-clause-count
returns-clause-count c =
    let run = c.args.self.now in
    total-is run.system.now run.states run.judgement run.judged

pub returns-clause-stuck : goal.returns-clause-stuck
returns-clause-stuck c =
    let run = c.args.self.now in
    none-where-stuck (plant_of run.system.now) run.states run.system.now.valid run.judgement.weights.total (returns-clause-count c)
