use Rattle.std.proofs.Common.{◌≡◌, ◌<◌, ◌↔◌, ℕ, true}
use Rattle.std.specs.FinSet.{contains}
use Rattle.plant_model.specs.Ranks.{is_head_at}
use Rattle.plant_model.proofs.ranks.all_heads.Given as goal

abbrev pub invariant-loop-number : goal.invariant-loop-number
invariant-loop-number l = (m : ℕ) → (contains l.heads m ≡ true) ↔ ((k : ℕ) × (k < l.number) × (is_head_at l.shared m k ≡ true))
