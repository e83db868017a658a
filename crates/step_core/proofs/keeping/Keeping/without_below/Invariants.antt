use Rattle.std.proofs.Common.{◌≡◌, ◌/◌, ◌%◌, ℕ, true, false}
use Rattle.std.specs.FinSet.{contains}
use Rattle.priority_filter.specs.Members.{has_bit}
use Rattle.plant_model.specs.System.{interactions_in, plant_of}
use Rattle.step_core.specs.Standing.{is_always_below, is_always_overruled}
use Rattle.step_core.proofs.keeping.Keeping.without_below.Given as goal

-- what is left are rivals; what is below another one has gone, and what has gone is overruled
abbrev pub invariant-loop-left : goal.invariant-loop-left
invariant-loop-left l = record {
  part : (k : ℕ) → has_bit l.left k ≡ true → has_bit l.rivals k ≡ true;
  within : (k : ℕ) → has_bit l.word k ≡ false → has_bit l.here k ≡ false;
  goes : (n m : ℕ) → n / 64 ≡ l.place → m / 64 ≡ l.other → has_bit l.rivals (m % 64) ≡ true → has_bit l.left (m % 64) ≡ false
      → is_always_below (plant_of l.self.system.now) (interactions_in l.self.system.now) n m ≡ true → has_bit l.here (n % 64) ≡ false;
  gone : (n : ℕ) → n / 64 ≡ l.place → has_bit l.word (n % 64) ≡ true → has_bit l.here (n % 64) ≡ false
      → is_always_overruled (plant_of l.self.system.now) (interactions_in l.self.system.now) (contains l.self.rivals.now) n ≡ true;
}

abbrev pub decreases-loop-left : goal.decreases-loop-left
decreases-loop-left l = l.left
