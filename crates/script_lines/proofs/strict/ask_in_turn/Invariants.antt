-- The events before this place were asked, and none was refused.
use Rattle.std.proofs.Common.{◌≡◌, length, take, None}
use Rattle.plant_core.specs.Handed.{hands_of}
use Rattle.plant_core.specs.Hands.{AreHandsFor}
use Rattle.plant_core.specs.Plants.{definition_of, device_of, text_digest, view_of}
use Rattle.script_lines.specs.Strict.{AreAskedStrictly}
use Rattle.script_lines.proofs.strict.ask_in_turn.Given as goal

abbrev pub invariant-loop-place : goal.invariant-loop-place
invariant-loop-place g l = record {
  plant : definition_of l.plant ≡ definition_of l.initial.plant;
  digest : text_digest l.plant ≡ text_digest l.initial.plant;
  as_many : AreHandsFor (length (definition_of l.initial.plant).atoms) (hands_of l.hands);
  so_far : AreAskedStrictly (definition_of l.initial.plant) (text_digest l.initial.plant) (view_of l.initial.plant) (device_of l.initial.plant) (hands_of l.initial.hands) (take l.place l.events) None (view_of l.plant) (device_of l.plant) (hands_of l.hands) (g.W.Write.contents l.initial.output) (g.W.Write.contents l.output);
}
