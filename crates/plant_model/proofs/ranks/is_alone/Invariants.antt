use Rattle.std.proofs.Common.{◌≡◌, ◌≢◌, ◌<◌, ℕ, true, false}
use Rattle.priority_filter.specs.Active.{unconditional}
use Rattle.priority_filter.specs.Decided.{is_below}
use Rattle.plant_model.specs.Ranks.{is_own}
use Rattle.plant_model.proofs.ranks.is_alone.Given as goal

-- so it is of the connectors so far
abbrev pub invariant-loop-number : goal.invariant-loop-number
invariant-loop-number l =
    (e n m : ℕ) → e < l.number → e ≢ l.connector → is_own l.rows l.connector n ≡ true → is_own l.rows e m ≡ true
    → (is_below (unconditional l.order.rules) l.order.interactions n m ≡ false) × (is_below (unconditional l.order.rules) l.order.interactions m n ≡ false)
