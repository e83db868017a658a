use Rattle.std.proofs.Common.{◌≡◌, ℕ, ◌*◌, ◌<◌, Bool, true, false, slice_index_or, IsTrue}
use Rattle.std.specs.FinSet.{contains}
use Rattle.priority_filter.specs.declared.condition.Condition.{Condition}
use Rattle.priority_filter.specs.Active.{may_be_marked}
use Rattle.priority_filter.specs.Conditions.{IsClosedBy, IsClosed}
use Rattle.priority_filter.proofs.condition.lower_once.Given as goal

-- if nothing came in, the set is closed by the conditions so far; and all that came in is in each closed set
abbrev pub invariant-loop-condition : goal.invariant-loop-condition
invariant-loop-condition l = record {
  same : l.added ≡ false → l.over ≡ l.initial.over;
  closed : l.added ≡ false → (k : ℕ) (d : Condition) → k < l.condition-index → IsClosedBy (slice_index_or l.conditions k d) (may_be_marked l.seen) (contains l.rivals) (contains l.over);
  more : l.added ≡ true → (n : ℕ) × (n < 64 * l.words) × (contains l.initial.over n ≡ false) × (contains l.over n ≡ true);
  grows : (n : ℕ) → IsTrue (contains l.initial.over n) → IsTrue (contains l.over n);
  least : (other : ℕ → Bool) → IsClosed l.conditions (may_be_marked l.seen) (contains l.rivals) other → ((n : ℕ) → IsTrue (contains l.initial.over n) → IsTrue (other n)) → (n : ℕ) → IsTrue (contains l.over n) → IsTrue (other n);
}
