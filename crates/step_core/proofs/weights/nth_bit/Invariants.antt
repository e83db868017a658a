use Rattle.std.proofs.Common.{◌≡◌, ◌≤◌, ℕ}
use Rattle.priority_filter.specs.Members.{has_bit}
use Rattle.step_core.proofs.LowestBits.{IsRest}
use Rattle.step_core.proofs.Ones.{ones_below}
use Rattle.step_core.proofs.weights.nth_bit.Given as goal

-- the bits from a place on are left, before which as many are set as were passed
abbrev pub invariant-loop : goal.invariant-loop
invariant-loop l = (k : ℕ) × (k ≤ 64) × IsRest (has_bit l.word) l.left k × (ones_below l.word k ≡ l.counter)
