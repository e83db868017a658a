use Rattle.std.proofs.Common.{◌≡◌, ℕ, ◌+◌, true, ◌&&◌, ◌||◌}
use Rattle.petri_atom.specs.Atom.{definition_of}
use Rattle.petri_atom.specs.Groups.{passes_bare}
use Rattle.petri_atom.specs.Local.{has}
use Rattle.petri_atom.proofs.atom.Atom.bare_from.Given as goal

abbrev pub invariant-loop-left : goal.invariant-loop-left
invariant-loop-left l =
    ((n : ℕ) → (has l.holding n || has l.left n && passes_bare (definition_of l.self).transitions l.state (l.first + n)) ≡ (has l.set n && passes_bare (definition_of l.self).transitions l.state (l.first + n))) ×
    ((n : ℕ) → has l.left n ≡ true → has l.set n ≡ true)

abbrev pub decreases-loop-left : goal.decreases-loop-left
decreases-loop-left l = l.left
