use Rattle.std.proofs.Common.{◌≡◌, length}
use Rattle.step_executor.specs.Outstanding.{AreMarked}
use Rattle.step_executor.proofs.committing.copy_parts.Given as goal

abbrev pub invariant-loop-left : goal.invariant-loop-left
invariant-loop-left l = record {
  as_many : length l.parts ≡ length l.from;
  marked : AreMarked l.left l.parts l.from;
}

abbrev pub decreases-loop-left : goal.decreases-loop-left
decreases-loop-left l = l.left
