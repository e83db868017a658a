use Rattle.std.proofs.Common.{◌≡◌, ◌<◌, ◌≤◌, ◌/◌, ◌&&◌, not, ℕ, false}
use Rattle.std.specs.FinSet.{contains}
use Rattle.priority_filter.specs.Active.{unconditional}
use Rattle.priority_filter.specs.Decided.{is_below}
use Rattle.plant_model.proofs.ranks.above_without.Given as goal

-- the words before the place are right, and the others are empty
abbrev pub invariant-loop-place : goal.invariant-loop-place
invariant-loop-place l =
    ((m : ℕ) → m / 64 < l.place → contains l.above m ≡ (is_below (unconditional l.order.rules) l.order.interactions l.interaction m && not (contains l.set m))) ×
    ((m : ℕ) → l.place ≤ m / 64 → contains l.above m ≡ false)
