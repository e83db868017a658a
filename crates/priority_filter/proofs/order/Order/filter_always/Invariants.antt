use Rattle.std.proofs.Common.{◌≡◌, ℕ, ◌*◌, ◌<◌, ◌≤◌, ◌&&◌, not}
use Rattle.std.specs.FinSet.{contains}
use Rattle.priority_filter.specs.Active.{unconditional}
use Rattle.priority_filter.specs.Decided.{is_overruled}
use Rattle.priority_filter.proofs.order.Order.filter_always.Given as goal

-- the words so far are right, and the others are as they were
abbrev pub invariant-loop-place : goal.invariant-loop-place
invariant-loop-place l =
    ((n : ℕ) → n < 64 * l.place → contains l.kept n ≡ (contains l.candidates n && not (is_overruled (unconditional l.self.rules) l.self.interactions (contains l.rivals) n))) ×
    ((n : ℕ) → 64 * l.place ≤ n → contains l.kept n ≡ contains l.initial.kept n)
