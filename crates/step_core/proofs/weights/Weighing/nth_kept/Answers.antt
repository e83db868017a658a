use Rattle.std.proofs.Common.{◌*◌, ◌+◌, ◌-◌, sym, ◌∙◌, ap, arith, subst}
use Rattle.std.specs.Prelude.{slice_get}
use Rattle.std.specs.FinSet.{contains}
use Rattle.plant_model.specs.System.{interactions_in, plant_of}
use Rattle.step_core.specs.Weights.{IsFound, choices_of_connector}
use Rattle.step_core.proofs.ConnectorRange.{entries-start, entry-before, few-words, found-first, low-is, words-end}
use Rattle.step_core.proofs.ConnectorWords.{bit-kept, entries, entry-behind, entry-set, found-there, one-each}
use Rattle.step_core.proofs.weights.Weighing.nth_kept.Goals as goal

-- the only interaction of a connector has its only choice
pub returns-then-rows-eq1 : goal.returns-then-rows-eq1
returns-then-rows-eq1 c =
    let w = c.args.self.now in
    let s = w.system.now in
    let own = choices_of_connector (plant_of s).atoms w.states.now (interactions_in s) (contains w.kept.now) c.args.connector in
    subst (λ n. IsFound (plant_of s).atoms w.states.now (interactions_in s) (slice_get own c.args.place) n 1 0) (sym c.from.ensures)
    (found-first w c.args.connector c.index-rows.result.now c.requires.connector c.index-rows.ensures c.requires.possible c.if-rows-eq1.true c.args.place c.requires.single c.requires.place)

pub loop-at-init : goal.loop-at-init
loop-at-init c =
    ap (λ ys. slice_get ys c.args.place) (entries-start c.args.self.now c.args.connector c.index-rows.result.now c.requires.connector c.index-rows.ensures c.requires.possible c.from-low.result (c.from-low.ensures ∙ low-is c.args.self.now c.args.connector c.index-rows.result.now c.requires.connector c.index-rows.ensures))

pub kept_word-word-requires-clause-place : goal.kept_word-word-requires-clause-place
kept_word-word-requires-clause-place c =
    omega (arith, c.loop-at-test.true, c.from-high.ensures, few-words c.args.self.now c.args.connector c.index-rows.result.now c.requires.connector c.index-rows.ensures)

pub returns-then-left-count : goal.returns-then-left-count
returns-then-left-count c =
    let w = c.args.self.now in
    let s = w.system.now in
    let none = c.requires.single in
    let at = c.loop-at.at in
    let word = c.kept_word-word.result in
    let bits = c.kept_word-word.ensures in
    let bit = c.nth_bit.result in
    let kept = bit-kept w c.args.connector c.requires.possible none at word bits bit c.nth_bit.ensures.low c.nth_bit.ensures.set in
    let own = choices_of_connector (plant_of s).atoms w.states.now (interactions_in s) (contains w.kept.now) c.args.connector in
    found-there w c.args.connector (64 * at + bit) 1 0 (slice_get own c.args.place) (sym (one-each w c.args.connector c.requires.possible none (64 * at + bit) kept)) (omega arith)
    (c.loop-at.invariant ∙ ap (slice_get (entries w c.args.connector c.requires.possible (64 * at))) (sym c.nth_bit.ensures.place) ∙
    entry-set w c.args.connector c.requires.possible none at word bits bit c.nth_bit.ensures.low c.nth_bit.ensures.set)

pub loop-at-preserved : goal.loop-at-preserved
loop-at-preserved c =
    let w = c.args.self.now in
    let at = c.loop-at.at in
    c.loop-at.invariant ∙
    entry-behind w c.args.connector c.requires.possible c.requires.single at c.kept_word-word.result c.kept_word-word.ensures (omega arith) c.loop-at.left (omega (arith, c.if-left-count.false, c.from-count.ensures)) ∙
    ap (λ n. slice_get (entries w c.args.connector c.requires.possible (64 * (at + 1))) (c.loop-at.left - n)) (sym c.from-count.ensures)

-- there is such a choice, and none behind the range
pub unreachable-requires : goal.unreachable-requires
unreachable-requires c =
    omega (
      arith,
      entry-before c.args.self.now c.args.connector c.index-rows.result.now c.requires.connector c.index-rows.ensures c.requires.possible c.args.place c.loop-at.at c.loop-at.left c.requires.place c.loop-at.invariant,
      c.loop-at-test.false,
      c.from-high.ensures,
      words-end c.args.self.now c.args.connector c.index-rows.result.now c.requires.connector c.index-rows.ensures,
    )
