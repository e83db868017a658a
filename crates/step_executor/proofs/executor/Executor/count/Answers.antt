use Rattle.std.proofs.Common.{sym, ◌∙◌, ap, length}
use Rattle.step_core.specs.Sure.{sure_choices}
use Rattle.step_executor.specs.Executing.{plant_in}
use Rattle.step_executor.proofs.Standing.{parts-known}
use Rattle.step_executor.proofs.executor.Executor.count.Goals as goal

pub returns : goal.returns
returns c = c.count_sure.ensures ∙ ap (λ ps. length (sure_choices (plant_in c.args.self.now) ps)) (sym (parts-known c.args.self.now))
