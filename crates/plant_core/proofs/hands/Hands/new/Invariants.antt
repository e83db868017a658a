use Rattle.std.proofs.Common.{◌≡◌, replicate, None, vec_capacity}
use Rattle.step_executor.specs.Outstanding.{kept_in}
use Rattle.plant_core.proofs.hands.Hands.new.Given as goal

abbrev pub invariant-loop : goal.invariant-loop
invariant-loop l = record {
  room : vec_capacity l.held ≡ l.atoms;
  room_of_jobs : vec_capacity l.jobs ≡ l.atoms;
  held : l.held.items ≡ replicate l.counter None;
  jobs : kept_in l.jobs.items ≡ replicate l.counter None;
}
