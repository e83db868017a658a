use Rattle.std.proofs.Common.{◌≡◌, map, take, length, vec_len, vec_capacity}
use Rattle.plant_core.specs.Snapshots.{known_of}
use Rattle.image_inspection.proofs.contents.known_of_all.Given as goal

abbrev pub invariant-loop-slot : goal.invariant-loop-slot
invariant-loop-slot l = record {
  room : vec_capacity l.saved ≡ length l.slots;
  long : vec_len l.saved ≡ l.slot-index;
  known : l.saved.items ≡ map known_of (take l.slot-index l.slots);
}
