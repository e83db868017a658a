use Rattle.std.proofs.Common.{◌≡◌, ◌*◌, ◌∙◌, ℕ, Bool, arith, map, length}
use Rattle.std.specs.FinSet.{contains}
use Rattle.std.proofs.lemmas.Bool.{or_parts}
use Rattle.petri_atom.specs.Atom.{definition_of}
use Rattle.plant_model.specs.Interaction.{interaction_of}
use Rattle.plant_model.proofs.Noting.{right-all}
use Rattle.step_core.specs.Sure.{is_open_at}
use Rattle.step_core.proofs.WordByWord.{word-but, word-next}
use Rattle.step_core.proofs.opening.OpenJudge.judge_touched.Goals as goal

pub loop-place-preserved : goal.loop-place-preserved
loop-place-preserved c =
    let all = c.args.interactions.now in
    let Open : ℕ → Bool → Type 0 = λ n is. is ≡ is_open_at (map definition_of c.args.self.now.judged.atoms.now) c.args.self.now.parts.now (map interaction_of all) n in
    let touched = contains c.args.touched.now in
    let place = c.loop-place.place in
    let word = c.word.result in
    let before = c.loop-place.invariant in
    let old = contains c.loop-place.opened in
    let new = contains c.judge_word-changed.new.opened in
    let told = c.judge_word-changed.ensures in (
      word-next Open touched (length all) place word c.word.ensures old new told.opened before.1 before.0,
      word-but Open touched (length all) place word c.word.ensures old new told.opened before.1,
      λ unchanged n.
          let parts = or_parts c.loop-place.changed c.judge_word-changed.result unchanged in
          told.same parts.1 n ∙ before.2 parts.0 n,
    )

pub returns-clause-opened : goal.returns-clause-opened
returns-clause-opened c n =
    let all = c.args.interactions.now in
    let Open : ℕ → Bool → Type 0 = λ n is. is ≡ is_open_at (map definition_of c.args.self.now.judged.atoms.now) c.args.self.now.parts.now (map interaction_of all) n in
    right-all Open (contains c.args.touched.now) (length all) (64 * c.loop-place.place) (contains c.loop-place.opened)
    (λ m from below. absurd (omega (arith, from, below, c.loop-place-test.false, c.div_ceil-place-end.ensures))) c.loop-place.invariant.0 c.loop-place.invariant.1 n
