use Rattle.std.proofs.Common.{◌≡◌, ◌*◌, ℕ, Bool, false, map, length}
use Rattle.std.specs.FinSet.{contains}
use Rattle.petri_atom.specs.Atom.{definition_of}
use Rattle.plant_model.specs.Interaction.{interaction_of}
use Rattle.plant_model.proofs.Noting.{IsRightBut, IsRightTo}
use Rattle.step_core.specs.Sure.{is_open_at}
use Rattle.step_core.proofs.opening.OpenJudge.judge_touched.Given as goal

-- the interactions of the words so far are judged, and the others are right but those that are to be judged
abbrev pub invariant-loop-place : goal.invariant-loop-place
invariant-loop-place l =
    let Open : ℕ → Bool → Type 0 = λ n is. is ≡ is_open_at (map definition_of l.self.judged.atoms.now) l.self.parts.now (map interaction_of l.interactions) n in
    IsRightTo Open (contains l.touched) (length l.interactions) (64 * l.place) (contains l.opened) ×
    IsRightBut Open (contains l.touched) (length l.interactions) (contains l.opened) ×
    (l.changed ≡ false → (n : ℕ) → contains l.opened n ≡ contains l.fn.opened n)
