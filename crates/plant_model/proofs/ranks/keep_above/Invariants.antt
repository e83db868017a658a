use Rattle.std.proofs.Common.{◌≡◌, ◌<◌, ◌≤◌, ◌/◌, ◌&&◌, ℕ}
use Rattle.std.specs.FinSet.{contains}
use Rattle.priority_filter.specs.Active.{unconditional}
use Rattle.priority_filter.specs.Decided.{is_below}
use Rattle.plant_model.proofs.ranks.keep_above.Given as goal

-- the words before the place are right, and the others are as they were
abbrev pub invariant-loop-place : goal.invariant-loop-place
invariant-loop-place l =
    ((m : ℕ) → m / 64 < l.place → contains l.set m ≡ (contains l.fn.set m && is_below (unconditional l.order.rules) l.order.interactions l.interaction m)) ×
    ((m : ℕ) → l.place ≤ m / 64 → contains l.set m ≡ contains l.fn.set m)
