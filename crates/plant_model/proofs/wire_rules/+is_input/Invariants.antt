use Rattle.std.proofs.Common.{length}
use Rattle.plant_model.proofs.wire_rules.+is_input.Given as goal

abbrev pub decreases-is_input : goal.decreases-is_input
decreases-is_input l = length l.inputs.now
