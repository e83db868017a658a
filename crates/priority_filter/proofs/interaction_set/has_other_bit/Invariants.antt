use Rattle.std.proofs.Common.{ℕ, ◌*◌, ◌<◌, IsTrue}
use Rattle.priority_filter.specs.Members.{holds}
use Rattle.priority_filter.proofs.interaction_set.has_other_bit.Given as goal

-- each bit of the words so far is set in the others too
abbrev pub invariant-loop-k : goal.invariant-loop-k
invariant-loop-k l = (a : ℕ) → a < 64 * l.k → IsTrue (holds l.words a) → IsTrue (holds l.other a)
