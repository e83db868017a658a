use Rattle.std.proofs.Common.{length}
use Rattle.plant_model.proofs.wire_rules.+has_target.Given as goal

abbrev pub decreases-has_target : goal.decreases-has_target
decreases-has_target l = length l.transfers.now
