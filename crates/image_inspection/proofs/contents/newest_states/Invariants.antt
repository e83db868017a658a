use Rattle.std.proofs.Common.{◌≡◌, map, vec_len, vec_capacity}
use Rattle.std.specs.List.{range_with_len}
use Rattle.plant_image.specs.Contents.{newest_held}
use Rattle.image_inspection.proofs.contents.newest_states.Given as goal

abbrev pub invariant-loop-atom : goal.invariant-loop-atom
invariant-loop-atom l = record {
  room : vec_capacity l.slots ≡ l.atoms;
  long : vec_len l.slots ≡ l.atom;
  read : l.slots.items ≡ map (newest_held l.cells) (range_with_len 0 l.atom);
}
