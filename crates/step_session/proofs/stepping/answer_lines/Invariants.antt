-- What is told so far is printed, and the lines of the bytes that the reader has left are left.
use Rattle.std.proofs.Common.{◌≡◌}
use Rattle.std.specs.Prelude.{IfSome}
use Rattle.step_session.specs.SessionOf.{plant_stepped, session_of}
use Rattle.step_session.proofs.Answering.{IsToldSoFar}
use Rattle.step_session.proofs.stepping.answer_lines.Given as goal

abbrev pub invariant-loop : goal.invariant-loop
invariant-loop g l = record {
  plant : plant_stepped l.session ≡ plant_stepped l.initial.session;
  transcript : IfSome (g.R.Read.remaining l.initial.input)
      (λ bytes. IsToldSoFar g.S.Saver.saves (plant_stepped l.initial.session) l.rule_lines l.mark (session_of l.initial.session) (session_of l.session) bytes
      (g.R.Read.remaining l.input) l.initial.saver l.saver (g.W.Write.contents l.initial.output) (g.W.Write.contents l.output));
}
