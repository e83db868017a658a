use Rattle.std.proofs.Common.{◌≡◌, sym, ◌∙◌, ap, get_or}
use Rattle.std.specs.Prelude.{Some, None}
use Rattle.plant_model.specs.System.{plant_of}
use Rattle.step_core.specs.Dispatcher.{parts_in, system_of}
use Rattle.step_core.specs.Job.{job_of}
use Rattle.step_executor.specs.Outstanding.{kept_in}
use Rattle.step_executor.proofs.Going.{whole-out, whole-there}
use Rattle.step_executor.proofs.executor.Executor.look.Goals as goal

pub returns-in-Some : goal.returns-in-Some
returns-in-Some c =
    let run = c.args.self.now in
    let its : get_or (kept_in run.kept.items) c.args.atom None ≡ Some (job_of c.in-Some.job.now) = sym c.in-Some.ensures in
    ap Some c.end.ensures ∙ sym (whole-out (plant_of (system_of run.dispatcher)) (kept_in run.kept.items) (parts_in run.dispatcher) run.outstanding c.args.atom (job_of c.in-Some.job.now) its)

pub returns-in-None : goal.returns-in-None
returns-in-None c =
    let run = c.args.self.now in
    let none : get_or (kept_in run.kept.items) c.args.atom None ≡ None = sym c.in-None.ensures in
    c.state.ensures.state ∙ sym (whole-there (plant_of (system_of run.dispatcher)) (kept_in run.kept.items) (parts_in run.dispatcher) run.outstanding c.args.atom none)
