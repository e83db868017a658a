use Rattle.std.proofs.Common.{◌≡◌, length, take, vec_capacity, vec_len}
use Rattle.plant_core.specs.Plants.{definition_of, device_of, text_digest, view_of}
use Rattle.plant_core.specs.Driven.{IsDriven}
use Rattle.plant_core.specs.Handed.{hands_of}
use Rattle.plant_core.specs.Hands.{AreHandsFor}
use Rattle.plant_core.proofs.driving.drive.Given as goal

abbrev pub invariant-loop-event : goal.invariant-loop-event
invariant-loop-event g l = record {
  room : vec_capacity l.answers ≡ length l.events;
  many : vec_len l.answers ≡ l.event-index;
  plant : definition_of l.plant ≡ definition_of l.initial.plant;
  digest : text_digest l.plant ≡ text_digest l.initial.plant;
  hands : AreHandsFor (length (definition_of l.initial.plant).atoms) (hands_of l.hands);
  so_far : IsDriven (definition_of l.initial.plant) (text_digest l.initial.plant) (view_of l.initial.plant) (device_of l.initial.plant) (hands_of l.initial.hands) (take l.event-index l.events) l.answers.items (view_of l.plant) (device_of l.plant) (hands_of l.hands);
}
