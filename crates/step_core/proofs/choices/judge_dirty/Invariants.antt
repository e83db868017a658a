use Rattle.std.proofs.Common.{◌≡◌, ◌≤◌, ℕ, length, true, false}
use Rattle.std.specs.FinSet.{contains}
use Rattle.priority_filter.specs.Members.{has_bit}
use Rattle.plant_model.specs.Choice.{is_possible_at}
use Rattle.plant_model.specs.ConnectorRows.{is_of_connector}
use Rattle.plant_model.specs.System.{interactions_in, plant_of}
use Rattle.step_core.proofs.choices.judge_dirty.Given as goal

-- what is left are connectors; the set is right at each interaction of another one, has none past the last interaction, and is as it was at those
-- of a connector that is not told
abbrev pub invariant-loop-left : goal.invariant-loop-left
invariant-loop-left l =
    ((k : ℕ) → length (plant_of l.system).wires ≤ k → has_bit l.left k ≡ false) ×
    ((n k : ℕ) → is_of_connector (interactions_in l.system) k n ≡ true → has_bit l.left k ≡ false → contains l.possible n ≡ is_possible_at (plant_of l.system).atoms (plant_of l.system).wires l.states (interactions_in l.system) n) ×
    ((n : ℕ) → length (interactions_in l.system) ≤ n → contains l.possible n ≡ false) ×
    ((k : ℕ) → length (plant_of l.system).wires ≤ k → has_bit l.changed k ≡ false) ×
    ((n k : ℕ) → is_of_connector (interactions_in l.system) k n ≡ true → has_bit l.changed k ≡ false → contains l.possible n ≡ contains l.fn.possible n)

abbrev pub decreases-loop-left : goal.decreases-loop-left
decreases-loop-left l = l.left
