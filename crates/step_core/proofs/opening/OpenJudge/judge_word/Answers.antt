use Rattle.std.proofs.Common.{◌≡◌, ◌+◌, ◌*◌, ◌^◌, ◌<◌, refl, map, ap, sym, ◌∙◌, arith, w64, ⊎_elim}
use Rattle.std.specs.Int.{trailing_zeros}
use Rattle.std.specs.FinSet.{contains}
use Rattle.std.proofs.lemmas.Bool.{or_parts, cases_eq, false≢true}
use Rattle.petri_atom.specs.Atom.{definition_of}
use Rattle.plant_model.specs.Interaction.{interaction_of}
use Rattle.plant_model.proofs.WithoutLowest.{fewer-less, same-rest}
use Rattle.step_core.specs.Sure.{is_open_at}
use Rattle.step_core.specs.Words.{in_word}
use Rattle.step_core.proofs.WordByWord.{lowest-inside, rest-inside, others-inside, none-inside}
use Rattle.step_core.proofs.opening.OpenJudge.judge_word.Goals as goal

pub loop-left-init : goal.loop-left-init
loop-left-init c = record {
  part = λ n inside. inside;
  right = λ n inside outside. absurd (false≢true (sym outside ∙ inside));
  others = λ n outside. refl;
  same = λ none n. refl;
}

pub loop-left-smaller : goal.loop-left-smaller
loop-left-smaller c = fewer-less w64 c.loop-left.left (omega (arith, c.loop-left-test.true)) (omega arith)

pub loop-left-preserved : goal.loop-left-preserved
loop-left-preserved c =
    let is = is_open_at (map definition_of c.args.self.now.judged.atoms.now) c.args.self.now.parts.now (map interaction_of c.args.interactions.now) in
    let place = c.args.place in
    let left = c.loop-left.left in
    let some : 0 < left = omega (arith, c.loop-left-test.true) in
    let small : left < 2 ^ 64 = omega arith in
    let number = 64 * place + trailing_zeros w64 left in
    let before = c.loop-left.invariant in
    let new = contains c.judge_one-changed.new.opened in
    let one = c.judge_one-changed.ensures in
    let is-rest = same-rest w64 left some small in
    record {
      part = λ n inside. before.part n (rest-inside place left some small n (sym (ap (λ w. in_word place w n) is-rest) ∙ inside));
      right = λ n inside outside. ⊎_elim
          (λ same. ap new same ∙ one.here ∙ ap is (sym same))
          (λ other. one.others n other ∙ before.right n inside (sym (ap (λ w. in_word place w n) is-rest ∙ others-inside place left some small n other) ∙ outside))
          (cases_eq n number);
      others = λ n outside.
          one.others n (λ same. false≢true (sym outside ∙ ap (in_word place c.args.word) same ∙ before.part number (lowest-inside place left some small))) ∙ before.others n outside;
      same = λ none n.
          let parts = or_parts c.loop-left.changed c.judge_one-changed.result none in
          one.same parts.1 n ∙ before.same parts.0 n;
    }

pub returns-clause-opened : goal.returns-clause-opened
returns-clause-opened c =
    let before = c.loop-left.invariant in
    let none : c.loop-left.left ≡ 0 = omega (arith, c.loop-left-test.false) in
    (λ n inside. before.right n inside (none-inside c.args.place c.loop-left.left n none), before.others)

pub returns-clause-same : goal.returns-clause-same
returns-clause-same c unchanged n = c.loop-left.invariant.same unchanged n
