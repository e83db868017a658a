use Rattle.std.proofs.Common.{◌≡◌, ℕ, Bool, cond, take}
use Rattle.std.specs.Prelude.{Some, slice_get, slice_index_or}
use Rattle.connector_tree.specs.Masks.{is_set}
use Rattle.plant_model.specs.declared.usual.Put.{Put}
use Rattle.step_core.specs.Puts.{IsRight, is_put}
use Rattle.step_core.proofs.leaves.Leaves.put_all.Given as goal

abbrev pub invariant-loop-put : goal.invariant-loop-put
invariant-loop-put l = record {
  off : (right : ℕ → ℕ → Bool) → ((n : ℕ) (p : Put) → slice_get l.puts n ≡ Some p → IsRight right p.off p) → (k leaf : ℕ) → is_set (slice_index_or l.self.off k 0) leaf ≡ cond (is_put (take l.put-index l.puts) k leaf) (right k leaf) (is_set (slice_index_or l.fn.self.off k 0) leaf);
  many : (right : ℕ → ℕ → Bool) → ((n : ℕ) (p : Put) → slice_get l.puts n ≡ Some p → IsRight right p.many p) → (k leaf : ℕ) → is_set (slice_index_or l.self.many k 0) leaf ≡ cond (is_put (take l.put-index l.puts) k leaf) (right k leaf) (is_set (slice_index_or l.fn.self.many k 0) leaf);
}
