use Rattle.std.proofs.Common.{◌≡◌, ℕ, ◌+◌, ◌*◌, ◌<◌, ◌&&◌, ◌||◌, not}
use Rattle.std.specs.FinSet.{contains}
use Rattle.priority_filter.specs.Active.{unconditional}
use Rattle.priority_filter.specs.Decided.{is_overruled}
use Rattle.priority_filter.specs.Members.{has_bit}
use Rattle.priority_filter.proofs.order.Order.without_overruled.Given as goal

-- those that are not left to be asked for are kept if no rival is above them
abbrev pub invariant-loop-left : goal.invariant-loop-left
invariant-loop-left l =
    (k : ℕ) → k < 64 → has_bit l.kept k ≡ (has_bit l.some k && (has_bit l.left k || not (is_overruled (unconditional l.self.rules) l.self.interactions (contains l.rivals) (64 * l.place + k))))

abbrev pub decreases-loop-left : goal.decreases-loop-left
decreases-loop-left l = l.left
