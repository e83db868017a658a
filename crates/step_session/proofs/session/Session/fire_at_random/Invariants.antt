-- The random choices that are left lead to the same session, and their lines are left.
use Rattle.std.proofs.Common.{◌≡◌, ◌-◌, ◌≤◌}
use Rattle.step_session.specs.SessionOf.{plant_stepped, session_of}
use Rattle.step_session.proofs.AtRandom.{IsFiringAtRandom}
use Rattle.step_session.proofs.session.Session.fire_at_random.Given as goal

abbrev pub invariant-loop : goal.invariant-loop
invariant-loop g l = record {
  plant : plant_stepped l.self ≡ plant_stepped l.initial.self;
  counted : l.counter ≤ l.count;
  left : IsFiringAtRandom (plant_stepped l.initial.self) (session_of l.initial.self) (session_of l.self) l.count (l.count - l.counter)
      (g.W.Write.contents l.initial.output) (g.W.Write.contents l.output);
}
