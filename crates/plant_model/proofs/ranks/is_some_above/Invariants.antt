use Rattle.std.proofs.Common.{◌≡◌, ◌<◌, ◌≤◌, ℕ, true, false}
use Rattle.std.specs.FinSet.{contains}
use Rattle.priority_filter.specs.Active.{unconditional}
use Rattle.priority_filter.specs.Decided.{is_below}
use Rattle.plant_model.proofs.ranks.is_some_above.Given as goal

abbrev pub invariant-loop-number : goal.invariant-loop-number
invariant-loop-number l =
    (n m : ℕ) → l.first ≤ n → n < l.number → contains l.above.own m ≡ true → is_below (unconditional l.order.rules) l.order.interactions n m ≡ false
