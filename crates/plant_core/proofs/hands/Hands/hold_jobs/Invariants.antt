-- the jobs so far are in the hands of their atoms
use Rattle.std.proofs.Common.{◌≡◌, length, drop}
use Rattle.step_core.specs.Jobs.{jobs_of}
use Rattle.step_executor.specs.Outstanding.{kept_in}
use Rattle.plant_core.specs.Hands.{with_jobs}
use Rattle.plant_core.proofs.hands.Hands.hold_jobs.Given as goal

abbrev pub invariant-loop : goal.invariant-loop
invariant-loop l = record {
  left : jobs_of l.jobs ≡ drop l.index (jobs_of l.initial.jobs);
  saved : l.self.held.items ≡ l.initial.self.held.items;
  many : length l.self.jobs.items ≡ length l.initial.self.jobs.items;
  held : with_jobs (jobs_of l.jobs) (kept_in l.self.jobs.items) ≡ with_jobs (jobs_of l.initial.jobs) (kept_in l.initial.self.jobs.items);
}
