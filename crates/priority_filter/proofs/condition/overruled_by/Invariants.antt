use Rattle.std.proofs.Common.{ℕ, Bool, IsTrue}
use Rattle.std.specs.FinSet.{contains}
use Rattle.priority_filter.specs.Active.{may_be_marked}
use Rattle.priority_filter.specs.Conditions.{IsClosed}
use Rattle.priority_filter.proofs.Fewer.{count_out}
use Rattle.priority_filter.proofs.condition.overruled_by.Given as goal

-- what is in is in each closed set
abbrev pub invariant-lowering : goal.invariant-lowering
invariant-lowering l = (other : ℕ → Bool) → IsClosed l.conditions (may_be_marked l.seen) (contains l.rivals) other → (n : ℕ) → IsTrue (contains l.over n) → IsTrue (other n)

abbrev pub decreases-lowering : goal.decreases-lowering
decreases-lowering l = count_out l.over
