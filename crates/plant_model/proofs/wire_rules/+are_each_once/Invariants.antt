use Rattle.std.proofs.Common.{length}
use Rattle.plant_model.proofs.wire_rules.+are_each_once.Given as goal

abbrev pub decreases-are_each_once : goal.decreases-are_each_once
decreases-are_each_once l = length l.transfers.now
