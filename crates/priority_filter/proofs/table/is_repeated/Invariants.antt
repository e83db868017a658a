use Rattle.std.proofs.Common.{◌≡◌, ℕ, ◌<◌}
use Rattle.priority_filter.specs.Order.{rule_at}
use Rattle.priority_filter.proofs.table.is_repeated.Given as goal

-- none of the rules so far is the same
abbrev pub invariant-loop-j : goal.invariant-loop-j
invariant-loop-j l = (i : ℕ) → i < l.j → ¬ (rule_at l.rules i ≡ rule_at l.rules l.k)
