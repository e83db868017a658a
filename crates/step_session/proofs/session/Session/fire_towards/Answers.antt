use Rattle.std.proofs.Common.{◌≡◌, ◌∙◌, ap, arith, subst, sym, true, false}
use Rattle.step_session.specs.Answers.{is_reached}
use Rattle.step_session.specs.AtRandom.{IsFiredAtRandom}
use Rattle.step_session.specs.SessionOf.{plant_stepped, session_of}
use Rattle.step_session.proofs.Reaching.{going-on, gone-stuck, gone-there, gone-to-most}
use Rattle.step_session.proofs.session.Session.fire_towards.Goals as goal

pub returns-then-can_fire-clause-fired : goal.returns-then-can_fire-clause-fired
returns-then-can_fire-clause-fired g c =
    let plant = plant_stepped c.args.self.now in
    let now = session_of c.loop.self in
    let reached : is_reached plant c.args.connector now ≡ true =
    ap (λ p. is_reached p c.args.connector now) (sym c.loop.invariant.plant) ∙ sym c.can_fire.ensures ∙ c.if-can_fire.true in
    gone-there plant c.args.connector (session_of c.args.self.now) (g.W.Write.contents c.args.output.now) now c.loop.counter (g.W.Write.contents c.loop.output) c.loop.invariant.going
    c.args.most (omega arith) reached

pub returns-then-not-branch-clause-fired : goal.returns-then-not-branch-clause-fired
returns-then-not-branch-clause-fired g c =
    let plant = plant_stepped c.args.self.now in
    let now = session_of c.loop.self in
    let after = session_of c.fire_any.new.self in
    let old = g.W.Write.contents c.loop.output in
    let new = g.W.Write.contents c.fire_any.new.output in
    let not_yet : is_reached plant c.args.connector now ≡ false =
    ap (λ p. is_reached p c.args.connector now) (sym c.loop.invariant.plant) ∙ sym c.can_fire.ensures ∙ c.if-can_fire.false in
    let stuck : IsFiredAtRandom false plant now after old new =
    subst (λ p. IsFiredAtRandom false p now after old new) c.loop.invariant.plant
    (subst (λ there. IsFiredAtRandom there (plant_stepped c.loop.self) now after old new) c.if-not-branch.true c.in_ok-fire_any.ensures.fired) in
    gone-stuck plant c.args.connector (session_of c.args.self.now) (g.W.Write.contents c.args.output.now) now c.loop.counter old c.loop.invariant.going
    c.args.most (omega arith) not_yet after new stuck

pub loop-preserved : goal.loop-preserved
loop-preserved g c =
    let plant = plant_stepped c.args.self.now in
    let now = session_of c.loop.self in
    let after = session_of c.fire_any.new.self in
    let old = g.W.Write.contents c.loop.output in
    let new = g.W.Write.contents c.fire_any.new.output in
    let not_yet : is_reached plant c.args.connector now ≡ false =
    ap (λ p. is_reached p c.args.connector now) (sym c.loop.invariant.plant) ∙ sym c.can_fire.ensures ∙ c.if-can_fire.false in
    let fired : IsFiredAtRandom true plant now after old new =
    subst (λ p. IsFiredAtRandom true p now after old new) c.loop.invariant.plant
    (subst (λ there. IsFiredAtRandom there (plant_stepped c.loop.self) now after old new) c.if-not-branch.false c.in_ok-fire_any.ensures.fired) in
    record {
      plant = c.fire_any.ensures.plant ∙ c.loop.invariant.plant;
      counted = omega arith;
      going = going-on plant c.args.connector (session_of c.args.self.now) (g.W.Write.contents c.args.output.now) now c.loop.counter old c.loop.invariant.going after new not_yet fired;
    }

pub returns-clause-fired : goal.returns-clause-fired
returns-clause-fired g c =
    gone-to-most (plant_stepped c.args.self.now) c.args.connector (session_of c.args.self.now) (g.W.Write.contents c.args.output.now) (session_of c.loop.self) c.loop.counter
    (g.W.Write.contents c.loop.output) c.loop.invariant.going c.args.most (omega (arith, c.loop.invariant.counted))
