use Rattle.step_core.proofs.OwnBits.{no-bit-differs, no-difference}
use Rattle.step_core.proofs.standing.stand_over.Goals as goal

pub returns-clause-told : goal.returns-clause-told
returns-clause-told c k same = no-difference c.over_of-now.result c.args.over.now k same

pub returns-clause-within : goal.returns-clause-within
returns-clause-within c k past none = no-bit-differs c.over_of-now.result c.args.over.now k (c.over_of-now.ensures.within k past) none
