-- The numbers of the connectors so far are known, and the choices of the next ones begin at the place that is kept.
use Rattle.std.proofs.Common.{◌≡◌, ◌<◌, ◌≤◌, ℕ, length, get_or}
use Rattle.plant_model.specs.Choice.{ChoiceDefinition, choices}
use Rattle.plant_model.specs.declared.limits.TheConstants.{MAX_WIRES}
use Rattle.step_core.specs.Running.{plant_in, states_in}
use Rattle.run_text.specs.OwnNumbers.{AreOwn}
use Rattle.run_text.specs.declared.own_numbers.OwnNumbers.{OwnNumbers}
use Rattle.run_text.proofs.own_numbers.numbers_by_connector.Given as goal

abbrev pub invariant-loop-connector : goal.invariant-loop-connector
invariant-loop-connector l =
    let cs = choices (plant_in l.run) (states_in l.run) in
    record {
      long : length l.numbers ≡ MAX_WIRES;
      within : l.first ≤ length cs;
      before : (place : ℕ) (d : ChoiceDefinition) → place < l.first → (get_or cs place d).connector < l.connector;
      after : (place : ℕ) (d : ChoiceDefinition) → l.first ≤ place → place < length cs → l.connector ≤ (get_or cs place d).connector;
      so_far : (k : ℕ) (other : OwnNumbers) → k < l.connector → AreOwn (plant_in l.run) (states_in l.run) k (get_or l.numbers k other);
    }
