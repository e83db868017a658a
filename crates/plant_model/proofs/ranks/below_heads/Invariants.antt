use Rattle.std.proofs.Common.{◌≡◌, ℕ, length}
use Rattle.std.specs.Prelude.{Some, slice_get}
use Rattle.priority_filter.specs.Members.{has_bit}
use Rattle.plant_model.specs.Ranks.{is_head_at}
use Rattle.plant_model.proofs.ranks.below_heads.Given as goal

abbrev pub invariant-loop-number : goal.invariant-loop-number
invariant-loop-number l =
    (length l.below.items ≡ l.number) ×
    ((m word : ℕ) → slice_get l.below.items m ≡ Some word → (k : ℕ) → has_bit word k ≡ is_head_at l.shared m k)
