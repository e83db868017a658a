-- As many random choices are fired as the loop has turns behind it, and the connector could not be fired before any of them.
use Rattle.std.proofs.Common.{◌≡◌, ◌≤◌}
use Rattle.step_session.specs.SessionOf.{plant_stepped, session_of}
use Rattle.step_session.proofs.Reaching.{IsGoing}
use Rattle.step_session.proofs.session.Session.fire_towards.Given as goal

abbrev pub invariant-loop : goal.invariant-loop
invariant-loop g l = record {
  plant : plant_stepped l.self ≡ plant_stepped l.initial.self;
  counted : l.counter ≤ l.most;
  going : IsGoing (plant_stepped l.initial.self) l.connector (session_of l.initial.self) (session_of l.self) l.counter
      (g.W.Write.contents l.initial.output) (g.W.Write.contents l.output);
}
