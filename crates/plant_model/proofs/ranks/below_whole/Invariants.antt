use Rattle.std.proofs.Common.{◌≡◌, ◌&&◌, nat_lt, ℕ}
use Rattle.priority_filter.specs.Members.{has_bit}
use Rattle.plant_model.specs.Ranks.{has_whole}
use Rattle.plant_model.proofs.ranks.below_whole.Given as goal

abbrev pub invariant-loop-number : goal.invariant-loop-number
invariant-loop-number l = (k : ℕ) → has_bit l.below k ≡ (nat_lt k l.number && has_whole l.shared l.connector k)
