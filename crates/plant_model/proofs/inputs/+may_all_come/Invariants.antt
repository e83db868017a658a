use Rattle.std.proofs.Common.{length}
use Rattle.plant_model.proofs.inputs.+may_all_come.Given as goal

abbrev pub decreases-may_all_come : goal.decreases-may_all_come
decreases-may_all_come l = length l.inputs.now
