use Rattle.std.proofs.Common.{◌≡◌, ℕ, ◌<◌, get_or, bit_and}
use Rattle.priority_filter.proofs.interaction_set.have_common_bit.Given as goal

-- no bit is set in both of the words so far
abbrev pub invariant-loop-k : goal.invariant-loop-k
invariant-loop-k l = (j : ℕ) → j < l.k → bit_and (get_or l.words j 0) (get_or l.other j 0) ≡ 0
