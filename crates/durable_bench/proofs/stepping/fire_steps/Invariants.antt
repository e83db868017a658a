use Rattle.std.proofs.Common.{◌≡◌, ◌≤◌, []}
use Rattle.step_core.specs.Jobs.{jobs_of}
use Rattle.step_executor.specs.Executing.{jobs_in, system_in}
use Rattle.durable_bench.specs.Away.{AreAllBack}
use Rattle.durable_bench.proofs.stepping.fire_steps.Given as goal

abbrev pub invariant-loop-left : goal.invariant-loop-left
invariant-loop-left l = record {
  few : l.left ≤ l.steps;
  system : system_in l.run ≡ system_in l.fn.run;
  all_back : AreAllBack (jobs_in l.run);
  no_job : jobs_of l.room.jobs ≡ [];
}

abbrev pub decreases-loop-left : goal.decreases-loop-left
decreases-loop-left l = l.left
