use Rattle.std.proofs.Common.{◌≡◌, ◌≤◌, count_by, take}
use Rattle.trimmer.specs.Covered.{is_held_by}
use Rattle.image_inspection.proofs.holding.behind.Given as goal

abbrev pub invariant-loop-mark : goal.invariant-loop-mark
invariant-loop-mark l = record {
  counted : l.count ≡ count_by (is_held_by l.atom l.saved) (take l.mark-index l.marks);
  few : l.count ≤ l.mark-index;
}
