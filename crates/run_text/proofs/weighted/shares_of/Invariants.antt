-- The connectors so far have their weights.
use Rattle.std.proofs.Common.{◌≡◌, ◌<◌, ℕ, get_or, length}
use Rattle.plant_model.specs.declared.limits.TheConstants.{MAX_WIRES}
use Rattle.step_core.specs.Running.{plant_in, states_in}
use Rattle.run_text.specs.Weights.{weight_in}
use Rattle.run_text.proofs.weighted.shares_of.Given as goal

abbrev pub invariant-loop-connector : goal.invariant-loop-connector
invariant-loop-connector l = record {
  long : length l.shares ≡ MAX_WIRES;
  so_far : (k : ℕ) → k < l.connector → get_or l.shares k 0 ≡ weight_in (plant_in l.run) (states_in l.run) l.weights k;
}
