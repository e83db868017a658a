use Rattle.std.proofs.Common.{◌≡◌, length, map, replicate, take, vec_capacity, None}
use Rattle.plant_core.specs.Snapshots.{known_of}
use Rattle.plant_core.proofs.snapshots.Snapshots.of.Given as goal

abbrev pub invariant-loop-slot : goal.invariant-loop-slot
invariant-loop-slot l = record {
  room_of_saved : vec_capacity l.saved ≡ length l.slots;
  room_of_kept : vec_capacity l.kept ≡ length l.slots;
  room_of_next_slots : vec_capacity l.next_slots ≡ length l.slots;
  saved : l.saved.items ≡ map known_of (take l.slot-index l.slots);
  kept : l.kept.items ≡ replicate l.slot-index None;
  next_slots : l.next_slots.items ≡ replicate l.slot-index None;
}
