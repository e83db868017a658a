use Rattle.std.proofs.Common.{◌≡◌, drop}
use Rattle.std.specs.Prelude.{find}
use Rattle.trimmer.specs.Covered.{is_held_by}
use Rattle.image_inspection.proofs.holding.first_held.Given as goal

abbrev pub invariant-loop-mark : goal.invariant-loop-mark
invariant-loop-mark l = find (is_held_by l.atom l.saved) l.marks ≡ find (is_held_by l.atom l.saved) (drop l.mark-index l.marks)
