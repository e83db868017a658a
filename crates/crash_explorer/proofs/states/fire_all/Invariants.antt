use Rattle.std.proofs.Common.{◌≡◌, drop, map}
use Rattle.plant_model.specs.Chosen.{fired_of}
use Rattle.plant_model.specs.Runs.{IsRun, fold}
use Rattle.step_core.specs.Running.{plant_in, states_in}
use Rattle.crash_explorer.proofs.states.fire_all.Given as goal

abbrev pub invariant-loop-firing : goal.invariant-loop-firing
invariant-loop-firing l = record {
  plant : plant_in l.stepper ≡ plant_in l.initial.stepper;
  run : IsRun (plant_in l.initial.stepper) (states_in l.stepper) (drop l.firing-index (map fired_of l.firings)) (fold (plant_in l.initial.stepper) (states_in l.initial.stepper) (map fired_of l.firings));
  leads : fold (plant_in l.initial.stepper) (states_in l.stepper) (drop l.firing-index (map fired_of l.firings)) ≡ fold (plant_in l.initial.stepper) (states_in l.initial.stepper) (map fired_of l.firings);
}
