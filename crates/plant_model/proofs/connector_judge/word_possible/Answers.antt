use Rattle.std.proofs.Common.{◌≡◌, ◌∙◌, [], ap, sym, refl, arith}
use Rattle.std.specs.Prelude.{slice_get}
use Rattle.std.proofs.lemmas.Option.{none-some}
use Rattle.plant_model.specs.ConnectorRows.{is_in_row}
use Rattle.plant_model.proofs.PossibleWords.{none-possible, word-possible}
use Rattle.plant_model.proofs.connector_judge.word_possible.Goals as goal

pub returns-then-off-rows-ne0 : goal.returns-then-off-rows-ne0
returns-then-off-rows-ne0 c clauses states unasked =
    none-possible c.args.rows.now c.args.off clauses states c.args.place c.requires.must (omega arith) (omega (arith, c.if-off-rows-ne0.true))

pub returns : goal.returns
returns c clauses states unasked =
    let on = c.word_on.ensures in
    let leaves_are = c.deref.ensures.value in
    let none : clauses ≡ [] = unasked (omega (arith, c.if-off-rows-ne0.false)) in
    word-possible c.args.rows.now c.args.off clauses states c.args.place c.word.result c.word.ensures c.word_on.result _ (omega arith)
    (λ n j at set inside. on.one n j at set (ap (λ rows. is_in_row rows n j) leaves_are ∙ inside))
    (λ n at none. on.none n at (λ j set. ap (λ rows. is_in_row rows n j) leaves_are ∙ none j set))
    (λ n at all_true. refl)
    (λ n k clause at there inside zero. absurd (none-some clause (sym (ap (λ xs. slice_get xs k) none) ∙ there)))
    (λ k below out. out)
