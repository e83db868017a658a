use Rattle.std.proofs.Common.{◌≡◌, ◌≤◌, ◌&&◌, ℕ, length, true, false, bit_or}
use Rattle.std.specs.Prelude.{slice_index_or}
use Rattle.std.specs.FinSet.{contains}
use Rattle.priority_filter.specs.Members.{has_bit}
use Rattle.plant_model.specs.ConnectorRows.{is_of_connector}
use Rattle.plant_model.specs.System.{interactions_in, plant_of}
use Rattle.step_core.specs.Settling.{AreBounded}
use Rattle.step_core.specs.Standing.{is_kept_always}
use Rattle.step_core.specs.Weights.{AreSums, weight_of}
use Rattle.step_core.proofs.settling.Settling.settle_all.Given as goal

-- what is left are connectors that are affected or heavy; what is kept is right but of those of them that are affected, and the weights are so but of
-- those that are heavy
abbrev pub invariant-loop-left : goal.invariant-loop-left
invariant-loop-left l = record {
  part : (k : ℕ) → has_bit l.left k ≡ true → has_bit (bit_or l.affected l.heavy) k ≡ true;
  kept : (n k : ℕ) → is_of_connector (interactions_in l.self.system.now) k n ≡ true → (has_bit l.left k && has_bit l.affected k) ≡ false
      → contains l.kept n ≡ is_kept_always (plant_of l.self.system.now) (interactions_in l.self.system.now) (contains l.self.possible.now) n;
  past : (n : ℕ) → length (interactions_in l.self.system.now) ≤ n → contains l.kept n ≡ false;
  weights : (k : ℕ) → (has_bit l.left k && has_bit l.heavy k) ≡ false
      → slice_index_or l.weights.of_connectors k 0 ≡ weight_of (plant_of l.self.system.now).atoms l.self.states.now (interactions_in l.self.system.now) (contains l.kept) k;
  sums : AreSums l.weights;
  bounded : AreBounded (interactions_in l.self.system.now) l.weights.of_connectors;
}

abbrev pub decreases-loop-left : goal.decreases-loop-left
decreases-loop-left l = l.left
