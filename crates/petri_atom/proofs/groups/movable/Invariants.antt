use Rattle.std.proofs.Common.{◌≡◌, ℕ, take}
use Rattle.petri_atom.specs.Local.{has}
use Rattle.petri_atom.specs.Groups.{is_movable}
use Rattle.petri_atom.proofs.groups.movable.Given as goal

abbrev pub invariant-loop-group : goal.invariant-loop-group
invariant-loop-group l =
    (n : ℕ) → has l.set n ≡ is_movable (take l.group-index l.groups) l.marking n
