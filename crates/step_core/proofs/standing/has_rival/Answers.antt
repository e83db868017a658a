use Rattle.std.proofs.Common.{◌/◌, ◌%◌, ◌∙◌, refl, sym, arith, ⊎_elim}
use Rattle.std.specs.FinSet.{contains}
use Rattle.std.proofs.lemmas.Bool.{cases_Bool, cases_eq, false≢true}
use Rattle.plant_model.specs.ConnectorRows.{is_of_connector}
use Rattle.plant_model.specs.System.{interactions_in}
use Rattle.plant_model.proofs.WordSets.{no-common}
use Rattle.step_core.proofs.OwnBits.{common-in}
use Rattle.step_core.proofs.OwnRange.{few-words, own-of, own-words, row-at}
use Rattle.step_core.proofs.standing.has_rival.Goals as goal

pub loop-place-init : goal.loop-place-init
loop-place-init c n its below =
    let system = c.args.system.now in
    let r = c.index-rows.result.now in
    absurd (omega (arith, below, (own-words system c.args.connector r c.requires (row-at system c.args.connector r c.requires c.index-rows.ensures) n its).0, c.from-place.ensures))

pub word-requires : goal.word-requires
word-requires c =
    omega (arith, c.loop-place-test.true, c.from-place-end.ensures, few-words c.args.system.now c.args.connector c.index-rows.result.now c.requires (row-at c.args.system.now c.args.connector c.index-rows.result.now c.requires c.index-rows.ensures))

pub word-requires-in-loop-place : goal.word-requires-in-loop-place
word-requires-in-loop-place c =
    omega (arith, c.loop-place-test.true, c.from-place-end.ensures, few-words c.args.system.now c.args.connector c.index-rows.result.now c.requires (row-at c.args.system.now c.args.connector c.index-rows.result.now c.requires c.index-rows.ensures))

pub returns-then-word-ne0 : goal.returns-then-word-ne0
returns-then-word-ne0 c =
    let system = c.args.system.now in
    let r = c.index-rows.result.now in
    let its = row-at system c.args.connector r c.requires c.index-rows.ensures in
    let found = common-in c.loop-place.place c.word.result c.word-in-loop-place.result (contains c.args.rivals.now) (is_of_connector (interactions_in system) c.args.connector) c.word.ensures
    (λ n here. c.word-in-loop-place.ensures n here ∙ own-of system c.args.connector r c.requires its n) (omega arith) (omega (arith, c.if-word-ne0.true)) in
    (λ _. (found.0, found.3, found.2), λ _. refl)

pub loop-place-preserved : goal.loop-place-preserved
loop-place-preserved c n its below =
    let system = c.args.system.now in
    let r = c.index-rows.result.now in
    ⊎_elim
    (λ here. ⊎_elim
    (λ rival. absurd (false≢true (
    sym (no-common c.word.result c.word-in-loop-place.result (n % 64) c.if-word-ne0.false (c.word.ensures n here ∙ rival)) ∙
    c.word-in-loop-place.ensures n here ∙ own-of system c.args.connector r c.requires (row-at system c.args.connector r c.requires c.index-rows.ensures) n ∙ its)))
    (λ none. none)
    (cases_Bool (contains c.args.rivals.now n)))
    (λ apart. c.loop-place.invariant n its (omega (arith, below, apart)))
    (cases_eq (n / 64) c.loop-place.place)

pub returns : goal.returns
returns c =
    let system = c.args.system.now in
    let r = c.index-rows.result.now in
    let its = row-at system c.args.connector r c.requires c.index-rows.ensures in (
      λ never. absurd (false≢true never),
      λ rival.
          sym (c.loop-place.invariant rival.0 rival.1 (omega (arith, (own-words system c.args.connector r c.requires its rival.0 rival.1).1, c.from-place-end.ensures, c.loop-place-test.false))) ∙ rival.2,
    )
