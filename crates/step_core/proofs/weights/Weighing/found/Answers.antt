use Rattle.std.proofs.Common.{◌∙◌, ap, arith}
use Rattle.std.specs.Prelude.{slice_get}
use Rattle.step_core.proofs.ConnectorRange.{entries-start, entry-before, few-words, low-is, words-end}
use Rattle.step_core.proofs.weights.Weighing.found.Goals as goal

pub loop-at-init : goal.loop-at-init
loop-at-init c =
    ap (λ ys. slice_get ys c.args.place) (entries-start c.args.self.now c.args.connector c.index-rows.result.now c.requires.connector c.index-rows.ensures c.requires.possible c.from-low.result (c.from-low.ensures ∙ low-is c.args.self.now c.args.connector c.index-rows.result.now c.requires.connector c.index-rows.ensures))

pub kept_word-requires-clause-place : goal.kept_word-requires-clause-place
kept_word-requires-clause-place c =
    omega (arith, c.loop-at-test.true, c.from-high.ensures, few-words c.args.self.now c.args.connector c.index-rows.result.now c.requires.connector c.index-rows.ensures)

pub found_in-requires-clause-at : goal.found_in-requires-clause-at
found_in-requires-clause-at c =
    omega (arith, c.loop-at-test.true, c.from-high.ensures, few-words c.args.self.now c.args.connector c.index-rows.result.now c.requires.connector c.index-rows.ensures)

-- there is such a choice, and none behind the range
pub unreachable-requires : goal.unreachable-requires
unreachable-requires c =
    omega (
      arith,
      entry-before c.args.self.now c.args.connector c.index-rows.result.now c.requires.connector c.index-rows.ensures c.requires.possible c.args.place c.loop-at.at c.loop-at.left c.requires.place c.loop-at.invariant,
      c.loop-at-test.false,
      c.from-high.ensures,
      words-end c.args.self.now c.args.connector c.index-rows.result.now c.requires.connector c.index-rows.ensures,
    )
