use Rattle.std.proofs.Common.{◌≡◌, ◌<◌, ◌+◌, ◌*◌, ap, ◌∙◌, arith, w64}
use Rattle.std.specs.Prelude.{slice_get}
use Rattle.std.specs.Int.{trailing_zeros}
use Rattle.plant_model.proofs.WithoutLowest.{fewer-less}
use Rattle.step_core.proofs.ConnectorWords.{entries, entries-over, entry-its, entry-later, found-there, its, next, next-within}
use Rattle.step_core.proofs.LowestKept.{all-left}
use Rattle.step_core.proofs.weights.Weighing.found_in.Goals as goal

pub loop-bits-init : goal.loop-bits-init
loop-bits-init c =
    let w = c.args.self.now in
    let start : 64 * c.args.at ≡ 64 * c.args.at + 0 = omega arith in
    (0, omega arith, all-left (its w c.args.connector) c.args.at c.args.word c.requires.word, ap (λ n. slice_get (entries w c.args.connector c.requires.possible n) c.args.place) start)

pub loop-bits-smaller : goal.loop-bits-smaller
loop-bits-smaller c = fewer-less w64 c.loop-bits.bits (omega (arith, c.loop-bits-test.true)) (omega arith)

pub ways_of-ways-requires : goal.ways_of-ways-requires
ways_of-ways-requires c =
    next-within c.args.self.now c.args.connector c.requires.possible c.args.at c.loop-bits.bits c.loop-bits.invariant.0 c.loop-bits.invariant.2 (omega (arith, c.loop-bits-test.true)) (omega arith)

pub returns-then-left-ways-clause-here : goal.returns-then-left-ways-clause-here
returns-then-left-ways-clause-here c =
    let w = c.args.self.now in
    let before = c.loop-bits.invariant in
    let some : 0 < c.loop-bits.bits = omega (arith, c.loop-bits-test.true) in
    let inside = c.if-left-ways.true in
    found-there w c.args.connector (64 * c.args.at + trailing_zeros w64 c.loop-bits.bits) c.ways_of-ways.result c.loop-bits.left (slice_get (entries w c.args.connector c.requires.possible (64 * c.args.at)) c.args.place) c.ways_of-ways.ensures.ways inside
    (before.3 ∙ entry-its w c.args.connector c.requires.possible c.args.at c.loop-bits.bits before.0 before.2 some (omega arith) c.loop-bits.left (omega (arith, c.ways_of-ways.ensures.ways, inside)))

pub loop-bits-preserved : goal.loop-bits-preserved
loop-bits-preserved c =
    let w = c.args.self.now in
    let before = c.loop-bits.invariant in
    let some : 0 < c.loop-bits.bits = omega (arith, c.loop-bits-test.true) in
    let one = next w c.args.connector c.requires.possible c.args.at c.loop-bits.bits before.0 before.2 some (omega arith) in (
      trailing_zeros w64 c.loop-bits.bits + 1,
      omega (arith, one.low),
      one.later,
      before.3 ∙
          entry-later w c.args.connector c.requires.possible c.args.at c.loop-bits.bits before.0 before.2 some (omega arith) c.loop-bits.left c.ways_of-ways.result c.ways_of-ways.ensures.ways (omega (arith, c.if-left-ways.false)),
    )

pub returns-clause-later : goal.returns-clause-later
returns-clause-later c =
    let w = c.args.self.now in
    let before = c.loop-bits.invariant in
    before.3 ∙
    ap (λ ys. slice_get ys c.loop-bits.left) (entries-over w c.args.connector c.requires.possible c.args.at c.loop-bits.bits before.0 before.2 before.1 (omega (arith, c.loop-bits-test.false)))
