-- The plant stands after the choices at the places so far, and their lines are printed.
use Rattle.std.proofs.Common.{◌≡◌, take}
use Rattle.std.specs.Prelude.{flat_map}
use Rattle.std.specs.Io.KnownBytes.{Appends}
use Rattle.plant_model.specs.Step.{initial_states}
use Rattle.step_core.specs.Running.{plant_in, states_in}
use Rattle.step_session.specs.Fired.{choices_fired, states_after}
use Rattle.step_session.specs.SessionOf.{plant_stepped}
use Rattle.run_text.specs.Steps.{saved_line}
use Rattle.step_session.proofs.session.Session.print_fired.Given as goal

abbrev pub invariant-loop-place : goal.invariant-loop-place
invariant-loop-place g l =
    let stepped = plant_stepped l.self in
    record {
      plant : plant_in l.run ≡ stepped;
      states : states_in l.run ≡ states_after stepped (take l.place-index l.self.fired.items);
      printed : Appends (g.W.Write.contents l.initial.output) (g.W.Write.contents l.output)
          (flat_map (saved_line stepped) (choices_fired stepped (initial_states stepped) (take l.place-index l.self.fired.items)));
    }
