use Rattle.std.proofs.Common.{◌≡◌, ◌<◌, ◌↔◌, ℕ, true}
use Rattle.priority_filter.specs.Members.{has_bit}
use Rattle.plant_model.specs.Ranks.{IsInRestOf, is_own}
use Rattle.plant_model.proofs.ranks.below_rest.Given as goal

abbrev pub invariant-loop-number : goal.invariant-loop-number
invariant-loop-number l = (k : ℕ) → (has_bit l.below k ≡ true) ↔ ((k < l.number) × IsInRestOf (is_own l.rows) l.rest l.connector k)
