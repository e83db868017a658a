use Rattle.std.proofs.Common.{◌∙◌, ◌<◌, ◌^◌, sym, arith, bit_and}
use Rattle.std.specs.FinSet.{contains}
use Rattle.std.proofs.lemmas.Nat.{and_le_r}
use Rattle.step_core.proofs.KeptCount.{both-bits, counted-bits, counted-end, counted-start}
use Rattle.step_core.proofs.OwnRange.{few-words}
use Rattle.step_core.proofs.Ones.{few-ones}
use Rattle.step_core.proofs.weights.Weighing.kept_count.Goals as goal

pub loop-place-init : goal.loop-place-init
loop-place-init c =
    let w = c.args.self.now in (
      omega arith,
      counted-start w.system.now w.states.now (contains w.kept.now) c.args.connector c.requires.possible c.args.rows.now c.requires.connector c.requires.rows c.from-place.result c.from-place.ensures,
    )

pub word-requires : goal.word-requires
word-requires c =
    omega (arith, c.loop-place-test.true, c.from-place-end.ensures, few-words c.args.self.now.system.now c.args.connector c.args.rows.now c.requires.connector c.requires.rows)

pub word-requires-in-loop-place : goal.word-requires-in-loop-place
word-requires-in-loop-place c =
    omega (arith, c.loop-place-test.true, c.from-place-end.ensures, few-words c.args.self.now.system.now c.args.connector c.args.rows.now c.requires.connector c.requires.rows)

pub loop-place-preserved : goal.loop-place-preserved
loop-place-preserved c =
    let w = c.args.self.now in
    let place = c.loop-place.place in
    let bits = both-bits w.system.now c.args.connector c.args.rows.now c.requires.connector c.requires.rows (contains w.kept.now) place c.word.result c.word-in-loop-place.result c.word.ensures c.word-in-loop-place.ensures in
    let word = bit_and c.word.result c.word-in-loop-place.result in
    let small : word < 2 ^ 64 = omega (arith, and_le_r c.word.result c.word-in-loop-place.result, c.word-in-loop-place.type_inv) in (
      omega (arith, c.loop-place.invariant.0, c.from-count.ensures, few-ones word small),
      counted-bits w.system.now w.states.now (contains w.kept.now) c.args.connector c.requires.possible w.offers.now.sets w.offers.now.counts w.leaves.now w.of_plant w.offering c.requires.single place
          word bits small ∙ omega (arith, c.loop-place.invariant.1, c.from-count.ensures),
    )

pub returns : goal.returns
returns c =
    let w = c.args.self.now in
    sym c.loop-place.invariant.1 ∙
    counted-end w.system.now w.states.now (contains w.kept.now) c.args.connector c.requires.possible c.args.rows.now c.requires.connector c.requires.rows c.loop-place.place (omega (arith, c.loop-place-test.false, c.from-place-end.ensures))
