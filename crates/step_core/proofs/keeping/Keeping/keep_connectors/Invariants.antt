use Rattle.std.proofs.Common.{◌≡◌, ◌≤◌, ◌&&◌, not, ℕ, length, true, false}
use Rattle.std.specs.FinSet.{contains}
use Rattle.priority_filter.specs.Members.{has_bit}
use Rattle.plant_model.specs.ConnectorRows.{is_of_connector}
use Rattle.plant_model.specs.System.{interactions_in, plant_of}
use Rattle.step_core.specs.Standing.{is_always_overruled}
use Rattle.step_core.proofs.keeping.Keeping.keep_connectors.Given as goal

-- what is left are affected connectors; what is kept of the other affected ones is right, and as it was of one that is not told
abbrev pub invariant-loop-left : goal.invariant-loop-left
invariant-loop-left l = record {
  part : (k : ℕ) → has_bit l.left k ≡ true → has_bit l.affected k ≡ true;
  kept : (n k : ℕ) → is_of_connector (interactions_in l.self.system.now) k n ≡ true → has_bit l.affected k ≡ true → has_bit l.left k ≡ false
      → contains l.kept n ≡ (contains l.self.possible.now n && not (is_always_overruled (plant_of l.self.system.now) (interactions_in l.self.system.now) (contains l.self.rivals.now) n));
  others : (n k : ℕ) → is_of_connector (interactions_in l.self.system.now) k n ≡ true → has_bit l.affected k ≡ false → contains l.kept n ≡ contains l.fn.kept n;
  past : (n : ℕ) → length (interactions_in l.self.system.now) ≤ n → contains l.kept n ≡ contains l.fn.kept n;
  within : (k : ℕ) → length (plant_of l.self.system.now).wires ≤ k → has_bit l.told k ≡ false;
  told : (n k : ℕ) → is_of_connector (interactions_in l.self.system.now) k n ≡ true → has_bit l.told k ≡ false → contains l.kept n ≡ contains l.fn.kept n;
}

abbrev pub decreases-loop-left : goal.decreases-loop-left
decreases-loop-left l = l.left
