use Rattle.std.proofs.Common.{ap}
use Rattle.plant_model.specs.BoundExpressions.{has_all}
use Rattle.plant_model.proofs.bound_expressions.has_all.Goals as goal

pub returns : goal.returns
returns c = ap (λ mask. has_all mask c.args.leaves) c.from.ensures
