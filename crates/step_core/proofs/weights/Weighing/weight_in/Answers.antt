use Rattle.std.proofs.Common.{◌≡◌, ◌<◌, ◌+◌, ◌*◌, ap, ◌∙◌, arith, w64}
use Rattle.std.specs.Int.{trailing_zeros}
use Rattle.plant_model.proofs.WithoutLowest.{fewer-less}
use Rattle.step_core.proofs.ConnectorWords.{counted, counted-next, counted-over, its, next, next-within}
use Rattle.step_core.proofs.LowestKept.{all-left}
use Rattle.step_core.proofs.weights.Weighing.weight_in.Goals as goal

pub loop-left-init : goal.loop-left-init
loop-left-init c =
    let w = c.args.self.now in
    let start : 64 * c.args.place + 0 ≡ 64 * c.args.place = omega arith in
    (0, omega arith, all-left (its w c.args.connector) c.args.place c.args.word c.requires.word, omega arith, ap (counted w c.args.connector c.requires.possible) start ∙ omega arith)

pub loop-left-smaller : goal.loop-left-smaller
loop-left-smaller c = fewer-less w64 c.loop-left.left (omega (arith, c.loop-left-test.true)) (omega arith)

pub ways_of-sum-requires : goal.ways_of-sum-requires
ways_of-sum-requires c =
    next-within c.args.self.now c.args.connector c.requires.possible c.args.place c.loop-left.left c.loop-left.invariant.0 c.loop-left.invariant.2 (omega (arith, c.loop-left-test.true)) (omega arith)

pub loop-left-preserved : goal.loop-left-preserved
loop-left-preserved c =
    let before = c.loop-left.invariant in
    let some : 0 < c.loop-left.left = omega (arith, c.loop-left-test.true) in
    let one = next c.args.self.now c.args.connector c.requires.possible c.args.place c.loop-left.left before.0 before.2 some (omega arith) in (
      trailing_zeros w64 c.loop-left.left + 1,
      omega (arith, one.low),
      one.later,
      omega (arith, c.ways_of-sum.ensures.few, one.from, before.3),
      counted-next c.args.self.now c.args.connector c.requires.possible c.args.place c.loop-left.left before.0 before.2 some (omega arith) c.loop-left.sum before.4 ∙ omega (arith, c.ways_of-sum.ensures.ways),
    )

pub returns-clause-count : goal.returns-clause-count
returns-clause-count c =
    let before = c.loop-left.invariant in
    counted-over c.args.self.now c.args.connector c.requires.possible c.args.place c.loop-left.left before.0 before.2 before.1 (omega (arith, c.loop-left-test.false)) ∙ before.4
