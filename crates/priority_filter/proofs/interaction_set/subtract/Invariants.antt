use Rattle.std.proofs.Common.{◌≡◌, ℕ, ◌*◌, ◌<◌, ◌≤◌, ◌&&◌, not, get_or}
use Rattle.priority_filter.specs.Members.{holds}
use Rattle.priority_filter.proofs.interaction_set.subtract.Given as goal

-- the words so far are without the bits of the others, and the rest are as they were
abbrev pub invariant-loop-k : goal.invariant-loop-k
invariant-loop-k l = record {
  cleared : (n : ℕ) → n < 64 * l.k → holds l.words n ≡ (holds l.initial.words n && not (holds l.other n));
  rest : (j : ℕ) → l.k ≤ j → get_or l.words j 0 ≡ get_or l.initial.words j 0;
}
