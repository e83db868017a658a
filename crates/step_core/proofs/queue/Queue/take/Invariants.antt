use Rattle.std.proofs.Common.{◌≡◌, ◌<◌, ℕ, get_or, length}
use Rattle.std.specs.Prelude.{None}
use Rattle.step_core.proofs.queue.Queue.take.Given as goal

-- the row is as it was, and its places so far are empty
abbrev pub invariant-loop-place : goal.invariant-loop-place
invariant-loop-place g l = record {
  same : l.self.places ≡ l.fn.self.places;
  long : length l.self.places ≡ 16;
  empty : (n : ℕ) → n < l.place → get_or l.self.places n None ≡ None;
}
