use Rattle.std.proofs.Common.{length}
use Rattle.plant_model.proofs.wire_rules.+are_inputs_once.Given as goal

abbrev pub decreases-are_inputs_once : goal.decreases-are_inputs_once
decreases-are_inputs_once l = length l.inputs.now
