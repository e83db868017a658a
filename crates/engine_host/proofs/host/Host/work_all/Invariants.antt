use Rattle.std.proofs.Common.{◌≡◌, List, length}
use Rattle.step_core.specs.Jobs.{jobs_of}
use Rattle.engine_host.specs.Told.{AreHandedBack}
use Rattle.engine_host.specs.declared.entry.Entry.{Entry}
use Rattle.engine_host.proofs.host.Host.work_all.Given as goal

-- where the jobs that are left are handed in, all are
abbrev pub invariant-loop-job : goal.invariant-loop-job
invariant-loop-job g l = record {
  watch : (after : List Entry) → AreHandedBack g.N.Naming.plant g.N.Naming.view (jobs_of l.jobs) l.seat.watch after
      → AreHandedBack g.N.Naming.plant g.N.Naming.view (jobs_of l.initial.jobs) l.initial.seat.watch after;
  amount : l.seat.share.amount ≡ l.initial.seat.share.amount;
}

abbrev pub decreases-loop-job : goal.decreases-loop-job
decreases-loop-job g l = length (jobs_of l.jobs)
