-- The choices before the one end are of earlier connectors, and those from the other end on are of none.
use Rattle.std.proofs.Common.{ℕ, ◌-◌, ◌<◌, ◌≤◌, length, get_or}
use Rattle.plant_model.specs.Choice.{ChoiceDefinition, choices}
use Rattle.step_core.specs.Running.{plant_in, states_in}
use Rattle.run_text.proofs.own_numbers.first_from.Given as goal

abbrev pub invariant-loop-low : goal.invariant-loop-low
invariant-loop-low l =
    let cs = choices (plant_in l.run) (states_in l.run) in
    record {
      ordered : l.low ≤ l.high;
      within : l.high ≤ length cs;
      before : (place : ℕ) (d : ChoiceDefinition) → place < l.low → (get_or cs place d).connector < l.connector;
      after : (place : ℕ) (d : ChoiceDefinition) → l.high ≤ place → place < length cs → l.connector ≤ (get_or cs place d).connector;
    }

abbrev pub decreases-loop-low : goal.decreases-loop-low
decreases-loop-low l = l.high - l.low
