use Rattle.std.proofs.Common.{◌≡◌, ℕ, ◌<◌, ◌≤◌, get_or, bit_or}
use Rattle.priority_filter.proofs.interaction_set.unite.Given as goal

-- the words so far are united, and the others are as they were
abbrev pub invariant-loop-k : goal.invariant-loop-k
invariant-loop-k l = record {
  united : (j : ℕ) → j < l.k → get_or l.words j 0 ≡ bit_or (get_or l.initial.words j 0) (get_or l.other j 0);
  rest : (j : ℕ) → l.k ≤ j → get_or l.words j 0 ≡ get_or l.initial.words j 0;
}
