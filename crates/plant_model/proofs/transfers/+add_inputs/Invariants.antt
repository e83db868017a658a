use Rattle.std.proofs.Common.{length}
use Rattle.plant_model.proofs.transfers.+add_inputs.Given as goal

abbrev pub decreases-add_inputs : goal.decreases-add_inputs
decreases-add_inputs l = length l.inputs.now
