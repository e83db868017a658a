use Rattle.std.proofs.Common.{◌≡◌, ◌+◌, ◌++◌, ◌∷◌, [], ◌∙◌, ap, sym, subst, take}
use Rattle.std.proofs.lemmas.List.{take_more}
use Rattle.plant_model.specs.ConnectorRows.{AreWordsAt}
use Rattle.plant_model.proofs.LowWords.{no-words, words-pushed}
use Rattle.plant_model.proofs.connector_rows.words_at.Goals as goal

pub loop-row-init : goal.loop-row-init
loop-row-init c = subst (AreWordsAt c.args.place []) (sym c.in_ok-words.ensures.items) (no-words c.args.place)

pub loop-row-preserved : goal.loop-row-preserved
loop-row-preserved c =
    let place = c.args.place in
    let rows = c.args.rows.now in
    let words = c.loop-row.words.items in
    let i = c.loop-row.row-index in
    let row = c.row-item.result in
    let word = c.word.result in
    let longer : take (i + 1) rows ≡ take i rows ++ row ∷ [] = take_more rows i row c.loop-row-test.true ∙ ap (λ x. take i rows ++ x ∷ []) (sym c.row-item.is) in
    subst (AreWordsAt place (take (i + 1) rows)) (sym c.in_ok-push.ensures.items)
    (subst (λ rs. AreWordsAt place rs (words ++ word ∷ [])) (sym longer) (words-pushed place row word c.word.ensures (take i rows) words c.loop-row.invariant))
