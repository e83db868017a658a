use Rattle.std.proofs.Common.{slice_index_or}
use Rattle.connector_tree.specs.Masks.{is_set}
use Rattle.step_core.specs.Leaves.{count_of, is_many, is_none}
use Rattle.step_core.proofs.Written.{AreWritten}
use Rattle.step_core.proofs.leaves.Leaves.set_connector.Given as goal

abbrev pub invariant-loop-leaf : goal.invariant-loop-leaf
invariant-loop-leaf l = record {
  off : AreWritten l.ports l.connector l.leaf (λ p. is_none (count_of l.offers.counts p)) (λ k j. is_set (slice_index_or l.fn.self.off k 0) j) (λ k j. is_set (slice_index_or l.self.off k 0) j);
  many : AreWritten l.ports l.connector l.leaf (λ p. is_many (count_of l.offers.counts p)) (λ k j. is_set (slice_index_or l.fn.self.many k 0) j) (λ k j. is_set (slice_index_or l.self.many k 0) j);
}
