-- The picks that are left lead on to the session behind all of them.
use Rattle.std.proofs.Common.{◌≡◌, ◌-◌, ◌^◌, length}
use Rattle.std.specs.Prelude.{IfSome}
use Rattle.plant_model.specs.System.{plant_of}
use Rattle.step_session.specs.SessionOf.{plant_stepped, session_of}
use Rattle.step_session.proofs.GoingOn.{IsTaking}
use Rattle.step_session.proofs.session.Session.behind.Given as goal

abbrev pub invariant-loop-session : goal.invariant-loop-session
invariant-loop-session g l = record {
  plant : plant_stepped l.session ≡ plant_of l.system;
  taking : IfSome (g.P.Picks.left l.initial.picks) (λ picks. IsTaking (plant_of l.system) picks (session_of l.session) (g.P.Picks.left l.picks));
}

abbrev pub decreases-loop-session : goal.decreases-loop-session
decreases-loop-session g l = 2 ^ 64 - length l.session.fired.items
