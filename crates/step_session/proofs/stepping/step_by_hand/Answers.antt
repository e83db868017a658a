use Rattle.std.proofs.Common.{subst}
use Rattle.std.proofs.lemmas.Option.{IfSome_then}
use Rattle.plant_model.specs.System.{plant_of}
use Rattle.plant_words.specs.Lines.{lines_of}
use Rattle.step_session.specs.SessionOf.{session_of}
use Rattle.step_session.specs.Transcript.{IsTranscript, transcript_of}
use Rattle.step_session.proofs.stepping.step_by_hand.Goals as goal

pub returns-clause-transcript : goal.returns-clause-transcript
returns-clause-transcript g c =
    let saves = g.S.Saver.saves in
    let plant = plant_of c.args.system.now in
    let rules = c.args.rule_lines.now in
    let session = c.in_ok-session.session in
    let start = g.W.Write.contents c.args.output.now in
    let new = g.W.Write.contents c.step_on.new.output in
    let before = c.args.saver.now in
    let after = c.step_on.new.saver in
    IfSome_then (g.P.Picks.left c.args.picks.now) c.in_ok-session.ensures.behind
    (λ left begins. IfSome_then (g.R.Read.remaining c.args.input.now) c.in_ok-step_on.ensures
    (λ bytes t. subst (λ s. IsTranscript saves (transcript_of plant rules c.args.mark s (lines_of bytes)) before after start new) begins
    (subst (λ p. IsTranscript saves (transcript_of p rules c.args.mark (session_of session) (lines_of bytes)) before after start new) c.in_ok-session.ensures.plant t)))
