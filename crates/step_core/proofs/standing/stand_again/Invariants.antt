use Rattle.std.proofs.Common.{◌≡◌, ◌≤◌, ◌||◌, ℕ, length, true, false}
use Rattle.std.specs.FinSet.{contains}
use Rattle.priority_filter.specs.Members.{has_bit}
use Rattle.plant_model.specs.ConnectorRows.{is_of_connector}
use Rattle.plant_model.specs.System.{interactions_in, plant_of}
use Rattle.step_core.specs.Standing.{AreLive, but_heads, is_always_overruled}
use Rattle.step_core.proofs.standing.stand_again.Given as goal

-- what is left are changed connectors; the rivals of all others are right, and what is overruled, beside by heads, of a connector that is told of
-- no change is so as before. What stands of heads is as it was
abbrev pub invariant-loop-left : goal.invariant-loop-left
invariant-loop-left l = record {
  part : (k : ℕ) → has_bit l.left k ≡ true → has_bit l.changed k ≡ true;
  live : ∥ AreLive (plant_of l.system) (interactions_in l.system) (contains l.rivals) l.standing.live ∥₁;
  over : l.standing.over ≡ l.fn.standing.over;
  done : (n k : ℕ) → is_of_connector (interactions_in l.system) k n ≡ true → has_bit l.left k ≡ false → contains l.rivals n ≡ (contains l.possible n || contains l.opened n);
  within : (k : ℕ) → length (plant_of l.system).wires ≤ k → has_bit l.reached k ≡ false;
  same : (n k : ℕ) → is_of_connector (interactions_in l.system) k n ≡ true → has_bit l.changed k ≡ false → contains l.rivals n ≡ contains l.fn.rivals n;
  heads : l.is_head_new ≡ false → (m : ℕ) → contains l.system.ranks.heads m ≡ true → contains l.rivals m ≡ contains l.fn.rivals m;
  told : (n k : ℕ) → is_of_connector (interactions_in l.system) k n ≡ true → has_bit l.changed k ≡ false → has_bit l.reached k ≡ false
      → is_always_overruled (plant_of l.system) (interactions_in l.system) (but_heads l.system.ranks (interactions_in l.system) k (contains l.rivals)) n
      ≡ is_always_overruled (plant_of l.system) (interactions_in l.system) (but_heads l.system.ranks (interactions_in l.system) k (contains l.fn.rivals)) n;
}

abbrev pub decreases-loop-left : goal.decreases-loop-left
decreases-loop-left l = l.left
