use Rattle.std.proofs.Common.{length}
use Rattle.recorded_picks.proofs.choice.+are_fired.Given as goal

abbrev pub decreases-are_fired : goal.decreases-are_fired
decreases-are_fired l = length l.ports.now
