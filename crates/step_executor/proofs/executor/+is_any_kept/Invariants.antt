use Rattle.std.proofs.Common.{length}
use Rattle.step_executor.proofs.executor.+is_any_kept.Given as goal

abbrev pub decreases-is_any_kept : goal.decreases-is_any_kept
decreases-is_any_kept l = length l.kept.now
