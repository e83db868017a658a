use Rattle.std.proofs.Common.{◌∙◌, sym, ap, subst}
use Rattle.std.specs.Prelude.{Some}
use Rattle.step_core.specs.Job.{job_done}
use Rattle.step_core.specs.Jobs.{jobs_of}
use Rattle.step_executor.specs.Executing.{jobs_in}
use Rattle.durable_bench.specs.Away.{AreAmong}
use Rattle.durable_bench.proofs.Back.{back-among}
use Rattle.durable_bench.proofs.stepping.take_back.Goals as goal

pub loop-job-preserved : goal.loop-job-preserved
loop-job-preserved c =
    let run = c.loop-job.run in
    let jobs = jobs_of c.loop-job.jobs in
    let after = jobs_in c.back.new.self in
    record {
      system = c.back.ensures.system ∙ c.loop-job.invariant.system;
      among = subst (AreAmong after) (sym c.take.ensures.rest)
          (back-among (jobs_in run) run.outstanding.own jobs c.loop-job.invariant.among (job_done c.work.result) (ap Some c.work.ensures ∙ c.in-Some.ensures.first) c.back.result after c.back.ensures.taken c.back.ensures.refused);
    }
