use Rattle.std.proofs.Common.{◌≡◌, ◌∙◌, ◌+◌, ◌-◌, ◌<◌, suc, arith, subst, true, false}
use Rattle.step_session.specs.AtRandom.{IsFiredAtRandom}
use Rattle.step_session.specs.SessionOf.{plant_stepped, session_of}
use Rattle.step_session.proofs.AtRandom.{IsFiringAtRandom, one-at-random, stuck-at-random}
use Rattle.step_session.proofs.session.Session.fire_at_random.Goals as goal

pub returns-then-not-branch-clause-fired : goal.returns-then-not-branch-clause-fired
returns-then-not-branch-clause-fired g c =
    let plant = plant_stepped c.args.self.now in
    let now = session_of c.loop.self in
    let after = session_of c.fire_any.new.self in
    let old = g.W.Write.contents c.loop.output in
    let new = g.W.Write.contents c.fire_any.new.output in
    let fired : IsFiredAtRandom false plant now after old new =
    subst (λ p. IsFiredAtRandom false p now after old new) c.loop.invariant.plant
    (subst (λ there. IsFiredAtRandom there (plant_stepped c.loop.self) now after old new) c.if-not-branch.true c.in_ok-fire_any.ensures.fired) in
    stuck-at-random plant (session_of c.args.self.now) now c.args.count (g.W.Write.contents c.args.output.now) (c.args.count - c.loop.counter) after old new c.loop.invariant.left fired

pub loop-preserved : goal.loop-preserved
loop-preserved g c =
    let plant = plant_stepped c.args.self.now in
    let first = session_of c.args.self.now in
    let now = session_of c.loop.self in
    let after = session_of c.fire_any.new.self in
    let start = g.W.Write.contents c.args.output.now in
    let old = g.W.Write.contents c.loop.output in
    let new = g.W.Write.contents c.fire_any.new.output in
    let count = c.args.count in
    let n = count - (c.loop.counter + 1) in
    let less : c.loop.counter < count = omega arith in
    let next : count - c.loop.counter ≡ suc n = omega arith in
    let fired : IsFiredAtRandom true plant now after old new =
    subst (λ p. IsFiredAtRandom true p now after old new) c.loop.invariant.plant
    (subst (λ there. IsFiredAtRandom there (plant_stepped c.loop.self) now after old new) c.if-not-branch.false c.in_ok-fire_any.ensures.fired) in
    record {
      plant = c.fire_any.ensures.plant ∙ c.loop.invariant.plant;
      counted = omega arith;
      left = one-at-random plant first now count start n after old new (subst (λ k. IsFiringAtRandom plant first now count k start old) next c.loop.invariant.left) fired;
    }
