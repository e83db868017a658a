use Rattle.std.proofs.Common.{◌≡◌, ◌<◌, ◌/◌, ℕ, true}
use Rattle.std.specs.FinSet.{contains}
use Rattle.priority_filter.specs.Members.{has_bit}
use Rattle.plant_model.specs.Ranks.{is_head_of}
use Rattle.step_core.specs.Standing.{HasHead}
use Rattle.step_core.proofs.standing.over_of.Given as goal

-- each connector so far has a head that is a rival, and all of those are there that have one in the words so far
abbrev pub invariant-loop-place : goal.invariant-loop-place
invariant-loop-place l = record {
  some : (k : ℕ) → has_bit l.over k ≡ true → HasHead l.system.ranks (contains l.rivals) k;
  all : (k m : ℕ) → m / 64 < l.place → is_head_of l.system.ranks m k ≡ true → contains l.rivals m ≡ true → has_bit l.over k ≡ true;
}
