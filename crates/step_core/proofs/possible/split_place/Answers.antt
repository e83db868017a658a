use Rattle.std.proofs.Common.{refl}
use Rattle.step_core.proofs.possible.split_place.Goals as goal

pub returns-clause-own : goal.returns-clause-own
returns-clause-own c = refl

pub returns-clause-rest : goal.returns-clause-rest
returns-clause-rest c = refl
