use Rattle.std.proofs.Common.{◌≡◌, length}
use Rattle.step_core.specs.Jobs.{jobs_of}
use Rattle.step_executor.specs.Executing.{jobs_in, system_in}
use Rattle.durable_bench.specs.Away.{AreAmong}
use Rattle.durable_bench.proofs.stepping.take_back.Given as goal

abbrev pub invariant-loop-job : goal.invariant-loop-job
invariant-loop-job l = record {
  system : system_in l.run ≡ system_in l.fn.run;
  among : AreAmong (jobs_in l.run) (jobs_of l.jobs);
}

abbrev pub decreases-loop-job : goal.decreases-loop-job
decreases-loop-job l = length (jobs_of l.jobs)
