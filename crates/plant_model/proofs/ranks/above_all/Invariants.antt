use Rattle.std.proofs.Common.{◌≡◌, ◌<◌, ◌≤◌, ◌↔◌, ℕ, true, false}
use Rattle.std.specs.FinSet.{contains}
use Rattle.priority_filter.specs.Active.{unconditional}
use Rattle.priority_filter.specs.Decided.{is_below}
use Rattle.plant_model.proofs.ranks.above_all.Given as goal

-- what is above each of those before the number
abbrev pub invariant-loop-number : goal.invariant-loop-number
invariant-loop-number l =
    (m : ℕ) → (contains l.above m ≡ true) ↔ ((contains l.rows.own m ≡ false) × ((n : ℕ) → l.first ≤ n → n < l.number → is_below (unconditional l.order.rules) l.order.interactions n m ≡ true))
