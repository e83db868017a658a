use Rattle.std.proofs.Common.{◌/◌, ◌%◌, ◌∙◌, ⊎_elim, sym, arith}
use Rattle.std.specs.FinSet.{contains}
use Rattle.std.proofs.lemmas.Bool.{cases_eq}
use Rattle.priority_filter.specs.Active.{unconditional}
use Rattle.priority_filter.specs.Decided.{is_below}
use Rattle.plant_model.proofs.Ranking.{common-in, in-words}
use Rattle.plant_model.proofs.WordSets.{no-common}
use Rattle.plant_model.proofs.ranks.is_one_above.Goals as goal

pub returns-then-word-above_word-ne0-clause-some : goal.returns-then-word-above_word-ne0-clause-some
returns-then-word-above_word-ne0-clause-some c _ =
    let found = common-in c.loop-place.place c.word.result c.above_word.result (contains c.args.rows.now.own) (is_below (unconditional c.args.order.now.rules) c.args.order.now.interactions c.args.interaction)
    c.word.ensures c.above_word.ensures (omega arith) (omega (arith, c.if-word-above_word-ne0.true)) in
    (found.0, found.2, found.3)

pub loop-place-preserved : goal.loop-place-preserved
loop-place-preserved c m own below =
    ⊎_elim
    (λ at. sym (c.above_word.ensures m at) ∙ no-common c.word.result c.above_word.result (m % 64) c.if-word-above_word-ne0.false (c.word.ensures m at ∙ own))
    (λ other. c.loop-place.invariant m own (omega (arith, below, other)))
    (cases_eq (m / 64) c.loop-place.place)

pub returns-clause-none : goal.returns-clause-none
returns-clause-none c _ m own = c.loop-place.invariant m own (omega (arith, (in-words c.args.rows.now c.requires m own).1, c.from-place-end.ensures, c.loop-place-test.false))
