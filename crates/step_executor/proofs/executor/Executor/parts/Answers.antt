use Rattle.std.proofs.Common.{sym, ◌∙◌}
use Rattle.step_executor.proofs.Standing.{parts-known}
use Rattle.step_executor.proofs.executor.Executor.parts.Goals as goal

pub returns : goal.returns
returns c = c.parts.ensures.parts ∙ sym (parts-known c.args.self.now)
