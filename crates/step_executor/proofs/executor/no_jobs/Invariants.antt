use Rattle.std.proofs.Common.{◌≡◌, replicate, None, vec_capacity}
use Rattle.step_executor.proofs.executor.no_jobs.Given as goal

abbrev pub invariant-loop : goal.invariant-loop
invariant-loop l = record {
  room : vec_capacity l.kept ≡ l.atoms;
  kept : l.kept.items ≡ replicate l.counter None;
}
