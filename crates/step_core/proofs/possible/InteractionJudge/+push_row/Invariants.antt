use Rattle.std.proofs.Common.{length}
use Rattle.step_core.proofs.possible.InteractionJudge.+push_row.Given as goal

abbrev pub decreases-push_row : goal.decreases-push_row
decreases-push_row l = length l.ports.now
