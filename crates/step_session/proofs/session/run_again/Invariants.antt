-- The plant stands after the choices at the places so far.
use Rattle.std.proofs.Common.{◌≡◌, take}
use Rattle.plant_model.specs.System.{plant_of}
use Rattle.step_core.specs.Running.{plant_in, states_in}
use Rattle.step_session.specs.Fired.{states_after}
use Rattle.step_session.proofs.session.run_again.Given as goal

abbrev pub invariant-loop-place : goal.invariant-loop-place
invariant-loop-place l = record {
  plant : plant_in l.run ≡ plant_of l.system;
  states : states_in l.run ≡ states_after (plant_of l.system) (take l.place-index l.places);
}
