use Rattle.std.proofs.Common.{◌≡◌, ◌≤◌, ℕ, length, true, false}
use Rattle.std.specs.FinSet.{contains}
use Rattle.priority_filter.specs.Members.{has_bit}
use Rattle.plant_model.specs.Choice.{is_possible_at}
use Rattle.plant_model.specs.ConnectorRows.{is_of_connector}
use Rattle.plant_model.specs.System.{interactions_in, plant_of}
use Rattle.step_core.specs.Standing.{AreLive, but_heads, is_always_overruled}
use Rattle.step_core.proofs.settling.judge_standing.Given as goal

-- what is left are connectors; the set is right at each interaction of another one, and as it was at those of a connector that has not changed; what
-- is overruled, beside by heads, of a connector that is told of no change is so as before. What stands of heads is as it was
abbrev pub invariant-loop-left : goal.invariant-loop-left
invariant-loop-left l = record {
  left : (k : ℕ) → length (plant_of l.system).wires ≤ k → has_bit l.left k ≡ false;
  right : (n k : ℕ) → is_of_connector (interactions_in l.system) k n ≡ true → has_bit l.left k ≡ false
      → contains l.possible n ≡ is_possible_at (plant_of l.system).atoms (plant_of l.system).wires l.states (interactions_in l.system) n;
  past : (n : ℕ) → length (interactions_in l.system) ≤ n → contains l.possible n ≡ false;
  live : ∥ AreLive (plant_of l.system) (interactions_in l.system) (contains l.possible) l.standing.live ∥₁;
  over : l.standing.over ≡ l.fn.standing.over;
  within : (k : ℕ) → length (plant_of l.system).wires ≤ k → has_bit l.changed k ≡ false;
  reached_within : (k : ℕ) → length (plant_of l.system).wires ≤ k → has_bit l.reached k ≡ false;
  same : (n k : ℕ) → is_of_connector (interactions_in l.system) k n ≡ true → has_bit l.changed k ≡ false → contains l.possible n ≡ contains l.fn.possible n;
  heads : l.is_head_new ≡ false → (m : ℕ) → contains l.system.ranks.heads m ≡ true → contains l.possible m ≡ contains l.fn.possible m;
  told : (n k : ℕ) → is_of_connector (interactions_in l.system) k n ≡ true → has_bit l.changed k ≡ false → has_bit l.reached k ≡ false
      → is_always_overruled (plant_of l.system) (interactions_in l.system) (but_heads l.system.ranks (interactions_in l.system) k (contains l.possible)) n
      ≡ is_always_overruled (plant_of l.system) (interactions_in l.system) (but_heads l.system.ranks (interactions_in l.system) k (contains l.fn.possible)) n;
}

abbrev pub decreases-loop-left : goal.decreases-loop-left
decreases-loop-left l = l.left
