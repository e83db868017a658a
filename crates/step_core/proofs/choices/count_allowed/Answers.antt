use Rattle.plant_model.specs.System.{plant_of}
use Rattle.plant_model.proofs.NoDeadlock.{none-where-stuck}
use Rattle.step_core.proofs.Judged.{total-is}
use Rattle.step_core.proofs.choices.count_allowed.Goals as goal

pub returns-clause-count : goal.returns-clause-count
returns-clause-count c = total-is c.args.system.now c.args.states.now c.judge.result c.judge.ensures

pub returns-clause-stuck : goal.returns-clause-stuck
returns-clause-stuck c =
    none-where-stuck (plant_of c.args.system.now) c.args.states.now c.args.system.now.valid c.judge.result.weights.total (returns-clause-count c)
