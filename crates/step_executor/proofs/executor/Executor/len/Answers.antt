use Rattle.std.proofs.Common.{sym, ◌∙◌, ap, length}
use Rattle.std.proofs.lemmas.List.{length-map}
use Rattle.step_core.specs.Dispatcher.{parts_in}
use Rattle.step_core.specs.Parts.{shown}
use Rattle.step_executor.specs.Outstanding.{ended_at, kept_in}
use Rattle.step_executor.proofs.Wholes.{filled-long}
use Rattle.step_executor.proofs.executor.Executor.len.Goals as goal

pub returns : goal.returns
returns c =
    let run = c.args.self.now in
    c.len.ensures ∙ ap length c.shown.ensures.states ∙ length-map c.parts.result.now shown ∙ ap length c.parts.ensures.parts ∙ sym (filled-long (ended_at (kept_in run.kept.items)) 0 (parts_in run.dispatcher))
