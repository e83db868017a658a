use Rattle.std.proofs.Common.{length}
use Rattle.plant_model.proofs.transfers.+deliver_inputs.Given as goal

abbrev pub decreases-deliver_inputs : goal.decreases-deliver_inputs
decreases-deliver_inputs l = length l.inputs.now
