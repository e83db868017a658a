use Rattle.std.proofs.Common.{◌≡◌, length, take}
use Rattle.step_executor.proofs.committing.copied.Given as goal

abbrev pub invariant-loop-atom : goal.invariant-loop-atom
invariant-loop-atom l = record {
  as_many : length l.states ≡ length l.from;
  same : take l.atom l.states ≡ take l.atom l.from;
}
