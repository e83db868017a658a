use Rattle.std.proofs.Common.{◌≡◌, ◌||◌, ℕ, drop}
use Rattle.petri_atom.specs.Local.{has}
use Rattle.step_core.specs.Sure.{has_move}
use Rattle.step_executor.proofs.committing.mark_moved.Given as goal

-- with those of the moves that are left it is what is to be marked
abbrev pub invariant-loop-step : goal.invariant-loop-step
invariant-loop-step l = (n : ℕ) → (has l.marked n || has_move (drop l.step-index l.moves) n) ≡ (has l.fn.moved n || has_move l.moves n)
