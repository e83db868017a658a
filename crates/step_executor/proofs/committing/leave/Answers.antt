use Rattle.std.proofs.Common.{sym, ◌∙◌}
use Rattle.step_executor.proofs.Copied.{away-same}
use Rattle.step_executor.proofs.committing.leave.Goals as goal

pub returns-else-not-is_away : goal.returns-else-not-is_away
returns-else-not-is_away c = away-same c.args.parts.now c.args.atom (sym c.is_away.ensures ∙ c.if-not-is_away.false)
