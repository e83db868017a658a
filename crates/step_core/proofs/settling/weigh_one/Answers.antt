use Rattle.std.proofs.Common.{◌∙◌, arith}
use Rattle.std.specs.FinSet.{contains}
use Rattle.step_core.proofs.BoundedWeights.{weight-bounded}
use Rattle.step_core.proofs.settling.weigh_one.Goals as goal

pub put_weight-requires-clause-few : goal.put_weight-requires-clause-few
put_weight-requires-clause-few c =
    let s = c.args.weighing.now in
    omega (arith, c.weight_of.ensures.weight, weight-bounded s.system.now s.states.now s.of_plant (contains s.kept.now) c.args.connector)

pub returns-clause-weight : goal.returns-clause-weight
returns-clause-weight c = c.put_weight.ensures.weight ∙ c.weight_of.ensures.weight
