use Rattle.std.proofs.Common.{◌≡◌}
use Rattle.petri_atom.specs.Definition.{first_from}
use Rattle.petri_atom.specs.Local.{numbers_below}
use Rattle.petri_atom.proofs.offered.first_in.Given as goal

abbrev pub invariant-loop-left : goal.invariant-loop-left
invariant-loop-left l =
    first_from l.from (numbers_below 128 l.left) ≡ first_from l.from (numbers_below 128 l.set)

abbrev pub decreases-loop-left : goal.decreases-loop-left
decreases-loop-left l = l.left
