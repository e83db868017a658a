use Rattle.std.proofs.Common.{arith}
use Rattle.step_core.proofs.BoundedWeights.{few-together}
use Rattle.step_core.proofs.settling.put_weight.Goals as goal

pub set-requires-clause-few : goal.set-requires-clause-few
set-requires-clause-few c = omega (arith, few-together c.args.system.now c.args.weights.now c.requires.sums c.requires.bounded, c.requires.small)
