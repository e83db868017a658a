use Rattle.std.proofs.Common.{length}
use Rattle.record_replay.proofs.fitting.+are_parts_at.Given as goal

abbrev pub decreases-are_parts_at : goal.decreases-are_parts_at
decreases-are_parts_at l = length l.ports.now
