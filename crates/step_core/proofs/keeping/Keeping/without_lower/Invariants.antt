use Rattle.std.proofs.Common.{◌≡◌, ◌<◌, ◌/◌, ◌%◌, ℕ, true, false}
use Rattle.std.specs.FinSet.{contains}
use Rattle.priority_filter.specs.Members.{has_bit}
use Rattle.plant_model.specs.ConnectorRows.{is_of_connector}
use Rattle.plant_model.specs.System.{interactions_in, plant_of}
use Rattle.step_core.specs.Standing.{is_always_below, is_always_overruled}
use Rattle.step_core.proofs.keeping.Keeping.without_lower.Given as goal

-- what is below a rival of the words so far has gone, and what has gone is overruled
abbrev pub invariant-loop-other : goal.invariant-loop-other
invariant-loop-other l = record {
  within : (k : ℕ) → has_bit l.word k ≡ false → has_bit l.here k ≡ false;
  goes : (n m : ℕ) → n / 64 ≡ l.place → is_of_connector (interactions_in l.self.system.now) l.connector m ≡ true → m / 64 < l.other → contains l.self.rivals.now m ≡ true
      → is_always_below (plant_of l.self.system.now) (interactions_in l.self.system.now) n m ≡ true → has_bit l.here (n % 64) ≡ false;
  gone : (n : ℕ) → n / 64 ≡ l.place → has_bit l.word (n % 64) ≡ true → has_bit l.here (n % 64) ≡ false
      → is_always_overruled (plant_of l.self.system.now) (interactions_in l.self.system.now) (contains l.self.rivals.now) n ≡ true;
}
