use Rattle.std.proofs.Common.{◌≡◌, ◌≤◌, ◌*◌, length}
use Rattle.std.specs.FinSet.{contains}
use Rattle.plant_model.specs.System.{interactions_in, plant_of}
use Rattle.step_core.specs.ChoicesIn.{choices_in_below}
use Rattle.step_core.specs.Weights.{is_kept_of}
use Rattle.step_core.proofs.weights.Weighing.kept_count.Given as goal

-- the choices of the connector's interactions of the words so far are counted
abbrev pub invariant-loop-place : goal.invariant-loop-place
invariant-loop-place l =
    (l.count ≤ l.place * 64) ×
    (length (choices_in_below (plant_of l.self.system.now).atoms l.self.states.now (interactions_in l.self.system.now) (is_kept_of (interactions_in l.self.system.now) (contains l.self.kept.now) l.connector) (64 * l.place)) ≡ l.count)
