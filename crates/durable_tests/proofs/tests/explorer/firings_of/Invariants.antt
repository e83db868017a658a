use Rattle.std.proofs.Common.{◌≡◌, map}
use Rattle.plant_model.specs.Chosen.{fired_of}
use Rattle.plant_model.specs.Runs.{IsRun}
use Rattle.plant_model.specs.Step.{initial_states}
use Rattle.plant_model.specs.System.{plant_of}
use Rattle.step_core.specs.Running.{plant_in, states_in}
use Rattle.durable_tests.proofs.tests.explorer.firings_of.Given as goal

abbrev pub invariant-loop-pick : goal.invariant-loop-pick
invariant-loop-pick l = record {
  plant : plant_in l.stepper ≡ plant_of l.system;
  run : IsRun (plant_of l.system) (initial_states (plant_of l.system)) (map fired_of l.firings.items) (states_in l.stepper);
}
