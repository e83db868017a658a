use Rattle.std.proofs.Common.{sym, ◌∙◌, ap, subst}
use Rattle.step_core.specs.Dispatcher.{parts_in}
use Rattle.step_executor.specs.Executing.{jobs_in, plant_in, states_in}
use Rattle.step_executor.specs.Outstanding.{AreMarked, committed_by}
use Rattle.step_executor.proofs.Going.{committed-now}
use Rattle.step_executor.proofs.executor.Executor.commit.Goals as goal

pub copy_parts-requires-clause-marked : goal.copy_parts-requires-clause-marked
copy_parts-requires-clause-marked c =
    let run = c.args.self.now in
    subst (AreMarked run.moved run.committed) (sym c.parts.ensures.parts) run.marked

pub returns-clause-committed : goal.returns-clause-committed
returns-clause-committed c =
    let run = c.args.self.now in
    ap (λ ps. committed_by ps (states_in run)) (c.copy_parts.ensures ∙ c.parts.ensures.parts) ∙ committed-now (plant_in run) (jobs_in run) (parts_in run.dispatcher) run.outstanding
