use Rattle.std.proofs.Common.{◌∙◌, List, subst}
use Rattle.step_core.specs.Job.{JobDefinition, job_of}
use Rattle.step_core.specs.Jobs.{jobs_of}
use Rattle.engine_host.specs.Told.{AreHandedBack, HasHandedBack}
use Rattle.engine_host.proofs.Working.{one_more}
use Rattle.engine_host.proofs.host.Host.work_all.Goals as goal

pub loop-job-preserved : goal.loop-job-preserved
loop-job-preserved g c =
    let plant = g.N.Naming.plant in
    let view = g.N.Naming.view in
    let before = c.loop-job.seat.watch in
    let next = c.back_for.new.seat.watch in record {
      watch = λ after rest. c.loop-job.invariant.watch after (one_more plant view (jobs_of c.loop-job.jobs) (job_of c.in-Some.job) before next after c.in-Some.ensures.first
          (subst (λ (k : JobDefinition). HasHandedBack plant view before k next) c.work.ensures c.back_for.ensures.watch)
          (subst (λ (ks : List JobDefinition). AreHandedBack plant view ks next after) c.take.ensures.rest rest));
      amount = c.back_for.ensures.amount ∙ c.loop-job.invariant.amount;
    }
