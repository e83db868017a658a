use Rattle.std.proofs.Common.{◌≡◌, ℕ, true, false, map}
use Rattle.std.specs.FinSet.{contains}
use Rattle.petri_atom.specs.Atom.{definition_of}
use Rattle.plant_model.specs.Interaction.{interaction_of}
use Rattle.step_core.specs.Sure.{is_open_at}
use Rattle.step_core.specs.Words.{in_word}
use Rattle.step_core.proofs.opening.OpenJudge.judge_word.Given as goal

-- those of the word that are not left are right, and no other is changed
abbrev pub invariant-loop-left : goal.invariant-loop-left
invariant-loop-left l = record {
  part : (n : ℕ) → in_word l.place l.left n ≡ true → in_word l.place l.word n ≡ true;
  right : (n : ℕ) → in_word l.place l.word n ≡ true → in_word l.place l.left n ≡ false → contains l.opened n ≡ is_open_at (map definition_of l.self.judged.atoms.now) l.self.parts.now (map interaction_of l.interactions) n;
  others : (n : ℕ) → in_word l.place l.word n ≡ false → contains l.opened n ≡ contains l.fn.opened n;
  same : l.changed ≡ false → (n : ℕ) → contains l.opened n ≡ contains l.fn.opened n;
}

abbrev pub decreases-loop-left : goal.decreases-loop-left
decreases-loop-left l = l.left
