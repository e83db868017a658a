use Rattle.std.proofs.Common.{◌≡◌, ℕ, ◌+◌, true, ◌&&◌, ◌||◌, List}
use Rattle.petri_atom.specs.Arcs.{AreArcsOf}
use Rattle.petri_atom.specs.Definition.{TransitionDefinition}
use Rattle.petri_atom.specs.Groups.{can_move_number}
use Rattle.petri_atom.specs.Local.{has}
use Rattle.petri_atom.proofs.moving.moving_from.Given as goal

abbrev pub invariant-loop-left : goal.invariant-loop-left
invariant-loop-left l =
    ((ts : List TransitionDefinition) → AreArcsOf l.arcs ts → (n : ℕ) → (has l.moving n || has l.left n && can_move_number ts l.marking (l.first + n)) ≡ (has l.set n && can_move_number ts l.marking (l.first + n))) ×
    ((n : ℕ) → has l.left n ≡ true → has l.set n ≡ true)

abbrev pub decreases-loop-left : goal.decreases-loop-left
decreases-loop-left l = l.left
