use Rattle.std.proofs.Common.{ℕ, List}
use Rattle.plant_model.specs.System.{plant_of}
use Rattle.step_core.specs.Leaves.{AreLeaves, count_of}
use Rattle.step_core.specs.Told.{IsRecounted, IsTold}
use Rattle.step_core.proofs.Telling.{AreLeavesBy, mixed}
use Rattle.step_core.proofs.changes.Changes.tell_ports.Given as goal

abbrev pub invariant-loop-left : goal.invariant-loop-left
invariant-loop-left l = record {
  leaves : (old new : List (List ℕ)) → IsRecounted l.atom l.before l.after old new → AreLeaves (plant_of l.system).wires old l.fn.leaves → AreLeavesBy (plant_of l.system).wires (mixed l.atom l.before l.after old l.left) l.leaves;
  told : (old new : List (List ℕ)) → IsRecounted l.atom l.before l.after old new → IsTold (plant_of l.system).wires (count_of old) (mixed l.atom l.before l.after old l.left) l.fn.self l.self;
}

abbrev pub decreases-loop-left : goal.decreases-loop-left
decreases-loop-left l = l.left
