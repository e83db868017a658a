use Rattle.std.proofs.Common.{◌≡◌, ◌&&◌, ◌||◌, not, ℕ, true, bit_and, bit_or}
use Rattle.priority_filter.specs.Members.{has_bit}
use Rattle.plant_model.specs.System.{interactions_in, plant_of}
use Rattle.step_core.specs.Settling.{IsSettledBut}
use Rattle.step_core.proofs.alone.settle_alone.Given as goal

-- what is left are connectors that are alone and reached; all is settled but these, and those that are not alone
abbrev pub invariant-loop-left : goal.invariant-loop-left
invariant-loop-left l = record {
  part : (k : ℕ) → has_bit l.left k ≡ true → has_bit (bit_and (bit_or l.changes.dirty l.changes.heavy) l.alone) k ≡ true;
  settled : IsSettledBut (plant_of l.system) (interactions_in l.system) l.system.ranks l.states
      (λ k. has_bit l.changes.dirty k && (has_bit l.left k || not (has_bit l.alone k)))
      (λ k. has_bit l.changes.heavy k && (has_bit l.left k || not (has_bit l.alone k)))
      l.judgement;
}

abbrev pub decreases-loop-left : goal.decreases-loop-left
decreases-loop-left l = l.left
