use Rattle.std.proofs.Common.{slice_index_or}
use Rattle.connector_tree.specs.Masks.{is_set}
use Rattle.step_core.specs.Leaves.{is_many, is_none}
use Rattle.step_core.proofs.Written.{IsWritten}
use Rattle.step_core.proofs.leaves.Leaves.set_all.Given as goal

abbrev pub invariant-loop-leaf : goal.invariant-loop-leaf
invariant-loop-leaf l = record {
  off : IsWritten l.leaves l.leaf-index (is_none l.count) (λ k j. is_set (slice_index_or l.fn.self.off k 0) j) (λ k j. is_set (slice_index_or l.self.off k 0) j);
  many : IsWritten l.leaves l.leaf-index (is_many l.count) (λ k j. is_set (slice_index_or l.fn.self.many k 0) j) (λ k j. is_set (slice_index_or l.self.many k 0) j);
}
