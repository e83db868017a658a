-- The lines before were answered, and the plant was driven by their events.
use Rattle.std.proofs.Common.{◌≡◌, length}
use Rattle.std.specs.Prelude.{IfSome}
use Rattle.plant_core.specs.Handed.{hands_of}
use Rattle.plant_core.specs.Hands.{AreHandsFor}
use Rattle.plant_core.specs.Plants.{definition_of, device_of, text_digest, view_of}
use Rattle.plant_model.specs.Fitting.{IsOf}
use Rattle.plant_service.specs.Serving.{HasBeenDriven}
use Rattle.plant_service.proofs.Lines.{IsServedSoFar}
use Rattle.plant_service.proofs.serving.serve_lines.Given as goal

abbrev pub invariant-loop : goal.invariant-loop
invariant-loop g l = record {
  plant : definition_of l.plant ≡ definition_of l.initial.plant;
  digest : text_digest l.plant ≡ text_digest l.initial.plant;
  as_many : AreHandsFor (length (definition_of l.initial.plant).atoms) (hands_of l.hands);
  states : IsOf (definition_of l.initial.plant) l.states;
  driven : HasBeenDriven (definition_of l.initial.plant) (text_digest l.initial.plant) (view_of l.initial.plant) (device_of l.initial.plant) (hands_of l.initial.hands) (view_of l.plant) (device_of l.plant) (hands_of l.hands);
  served : IfSome (g.R.Read.remaining l.initial.input)
      (λ bytes. IsServedSoFar (definition_of l.initial.plant) (text_digest l.initial.plant) l.rule_lines (view_of l.initial.plant) (device_of l.initial.plant) (hands_of l.initial.hands) bytes
      (g.R.Read.remaining l.input) (view_of l.plant) (device_of l.plant) (hands_of l.hands) (g.W.Write.contents l.initial.output) (g.W.Write.contents l.output));
}
