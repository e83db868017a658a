use Rattle.std.proofs.Common.{◌≡◌, ◌/◌, ◌%◌, ℕ, true, false}
use Rattle.std.specs.Prelude.{slice_index_or}
use Rattle.priority_filter.specs.Members.{has_bit}
use Rattle.step_core.proofs.standing.below_heads.Given as goal

-- what is left are heads of the word; each connector so far has one of these, and all of those are there that have one that is not left
abbrev pub invariant-loop-left : goal.invariant-loop-left
invariant-loop-left l = record {
  part : (k : ℕ) → has_bit l.left k ≡ true → has_bit l.word k ≡ true;
  some : (k : ℕ) → has_bit l.below k ≡ true → (m : ℕ) × (m / 64 ≡ l.place) × (has_bit l.word (m % 64) ≡ true) × (has_bit (slice_index_or l.system.ranks.below_head.items m 0) k ≡ true);
  all : (k m : ℕ) → m / 64 ≡ l.place → has_bit l.word (m % 64) ≡ true → has_bit l.left (m % 64) ≡ false → has_bit (slice_index_or l.system.ranks.below_head.items m 0) k ≡ true → has_bit l.below k ≡ true;
}

abbrev pub decreases-loop-left : goal.decreases-loop-left
decreases-loop-left l = l.left
