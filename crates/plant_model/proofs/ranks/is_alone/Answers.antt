use Rattle.std.proofs.Common.{◌∙◌, ⊎_elim, ap, sym, refl, length, arith}
use Rattle.std.proofs.lemmas.Bool.{both_ways, cases_eq, false≢true}
use Rattle.std.proofs.lemmas.Option.{slice_get_read}
use Rattle.plant_model.specs.Ranks.{is_own}
use Rattle.plant_model.proofs.Ranking.{own-at, own-within}
use Rattle.plant_model.proofs.ranks.is_alone.Goals as goal
use Rattle.plant_model.proofs.ranks.is_alone.Goals.{else-number-connector-via-then-number-connector+else-not-are_apart, else-number-connector-via-else-number-connector}

pub are_apart-requires-clause-one : goal.are_apart-requires-clause-one
are_apart-requires-clause-one c =
    let rows = c.args.rows.now in
    let row = c.index-rows-connector.result in
    c.requires.ranges c.args.connector row (slice_get_read rows (length rows) c.args.connector row refl c.requires.connector c.index-rows-connector.is)

pub are_apart-requires-clause-other : goal.are_apart-requires-clause-other
are_apart-requires-clause-other c =
    let rows = c.args.rows.now in
    let row = c.index-rows-number.result in
    c.requires.ranges c.loop-number.number row (slice_get_read rows (length rows) c.loop-number.number row refl c.loop-number-test.true c.index-rows-number.is)

pub loop-number-init : goal.loop-number-init
loop-number-init c e n m below = absurd (omega (arith, below))

pub returns-then-not-are_apart : goal.returns-then-not-are_apart
returns-then-not-are_apart c = (
  λ bad. absurd (false≢true bad),
  λ alone.
      let rows = c.args.rows.now in
      let connector = c.args.connector in
      let number = c.loop-number.number in
      let one = c.index-rows-connector.result in
      let other = c.index-rows-number.result in
      let at = slice_get_read rows (length rows) connector one refl c.requires.connector c.index-rows-connector.is in
      let there = slice_get_read rows (length rows) number other refl c.loop-number-test.true c.index-rows-number.is in
      absurd (both_ways c.are_apart.result c.if-not-are_apart.true
      (c.are_apart.ensures.1 (λ n m own its. alone number n m c.if-number-connector.true (own-at rows connector n one at ∙ own) (own-at rows number m other there ∙ its)))),
)

pub loop-number-preserved : goal.loop-number-preserved
loop-number-preserved c e n m below apart own its =
    let rows = c.args.rows.now in
    let connector = c.args.connector in
    let number = c.loop-number.number in
    ⊎_elim
    (λ same.
    elim c.else-number-connector.branch [
      | else-number-connector-via-then-number-connector+else-not-are_apart w ↦
          let one = w.index-rows-connector.result in
          let other = w.index-rows-number.result in
          let at = slice_get_read rows (length rows) connector one refl c.requires.connector w.index-rows-connector.is in
          let there = slice_get_read rows (length rows) number other refl c.loop-number-test.true w.index-rows-number.is in
          w.are_apart.ensures.0 w.if-not-are_apart.false n m (sym (own-at rows connector n one at) ∙ own) (sym (own-at rows number m other there) ∙ ap (λ k. is_own rows k m) (sym same) ∙ its)
      | else-number-connector-via-else-number-connector w ↦ absurd (apart (same ∙ w.if-number-connector.false))
    ])
    (λ later. c.loop-number.invariant e n m (omega (arith, below, later)) apart own its)
    (cases_eq e number)

pub returns : goal.returns
returns c = (
  λ _ e n m apart own its. c.loop-number.invariant e n m (omega (arith, own-within c.args.rows.now e m its, c.loop-number-test.false)) apart own its,
  λ _. refl,
)
