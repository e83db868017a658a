-- The states from this place on are left.
use Rattle.std.proofs.Common.{◌≡◌, drop, length}
use Rattle.plant_core.specs.Snapshots.{with_slots}
use Rattle.plant_core.proofs.snapshots.Snapshots.all_stored.Given as goal

abbrev pub invariant-loop-i : goal.invariant-loop-i
invariant-loop-i l = record {
  left : with_slots (drop l.i l.batch) l.self ≡ with_slots l.batch l.initial.self;
  many : length l.self.kept ≡ length l.initial.self.kept;
}
