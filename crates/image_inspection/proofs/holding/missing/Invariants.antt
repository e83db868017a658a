use Rattle.std.proofs.Common.{◌≡◌, ◌-◌, map}
use Rattle.std.specs.Prelude.{sum}
use Rattle.std.specs.List.{range_with_len}
use Rattle.image_inspection.specs.Holding.{took_part}
use Rattle.image_inspection.proofs.holding.missing.Given as goal

abbrev pub invariant-loop-atom : goal.invariant-loop-atom
invariant-loop-atom l = l.left ≡ l.last - sum (map (took_part l.saved l.marks) (range_with_len 0 l.atom))
