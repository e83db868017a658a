use Rattle.std.proofs.Common.{◌≡◌, ◌&&◌, ℕ, nat_lt, slice_index_or}
use Rattle.connector_tree.specs.Masks.{is_set}
use Rattle.plant_model.specs.System.{plant_of}
use Rattle.step_core.specs.Leaves.{is_leaf_where, is_many, is_none}
use Rattle.step_core.proofs.leaves.Leaves.of.Given as goal

abbrev pub invariant-loop-connector : goal.invariant-loop-connector
invariant-loop-connector l = record {
  off : (k leaf : ℕ) → is_set (slice_index_or l.leaves.off k 0) leaf ≡ (nat_lt k l.connector && is_leaf_where is_none (plant_of l.system).wires l.offers.counts k leaf);
  many : (k leaf : ℕ) → is_set (slice_index_or l.leaves.many k 0) leaf ≡ (nat_lt k l.connector && is_leaf_where is_many (plant_of l.system).wires l.offers.counts k leaf);
}
