use Rattle.std.proofs.Common.{◌≡◌, ◌&&◌, nat_lt, ℕ}
use Rattle.priority_filter.specs.Members.{has_bit}
use Rattle.plant_model.specs.Ranks.{is_head_at}
use Rattle.plant_model.proofs.ranks.below_head.Given as goal

abbrev pub invariant-loop-number : goal.invariant-loop-number
invariant-loop-number l = (k : ℕ) → has_bit l.below k ≡ (nat_lt k l.number && is_head_at l.shared l.interaction k)
