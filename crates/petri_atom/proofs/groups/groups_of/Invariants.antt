use Rattle.std.proofs.Common.{◌≡◌, ℕ, ◌&&◌, ltb}
use Rattle.petri_atom.specs.Groups.{is_movable}
use Rattle.petri_atom.proofs.Grouping.{suits_number}
use Rattle.petri_atom.proofs.groups.groups_of.Given as goal

abbrev pub invariant-loop-number : goal.invariant-loop-number
invariant-loop-number l =
    (marking n : ℕ) → is_movable l.groups.items marking n ≡ (ltb n l.number && suits_number l.transitions marking n)
