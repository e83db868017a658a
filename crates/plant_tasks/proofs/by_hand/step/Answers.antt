-- The session begins behind the picks of the text, and has the lines of the plant's rules.
use Rattle.std.proofs.Common.{◌≡◌, ◌∙◌, subst}
use Rattle.std.specs.Prelude.{IfSome, None}
use Rattle.part_lines.specs.Lookup.{rule_lines}
use Rattle.plant_words.specs.Lines.{lines_of}
use Rattle.run_text.specs.RunPicks.{picks_left}
use Rattle.run_text.specs.Runs.{refusal_of}
use Rattle.step_session.specs.Behind.{session_behind}
use Rattle.step_session.specs.Transcript.{IsTranscript, transcript_of}
use Rattle.plant_tasks.specs.Printed.{plant_read}
use Rattle.plant_tasks.proofs.by_hand.step.Goals as goal

pub returns-clause-told : goal.returns-clause-told
returns-clause-told g c =
    let plant = plant_read c.args.plant.now in
    subst (λ known. IfSome known (λ left. IfSome (g.F.Read.remaining c.args.input.now) (λ bytes.
    IsTranscript g.S.Saver.saves (transcript_of plant (rule_lines c.args.plant.now.text.now) c.args.mark (session_behind plant left) (lines_of bytes))
    c.args.saver.now c.step_by_hand.new.saver (g.W.Write.contents c.args.output.now) (g.W.Write.contents c.step_by_hand.new.output))))
    c.in_ok-picks.ensures
    (subst (λ rules. IfSome (picks_left (λ left. left) c.in_ok-picks.picks) (λ left. IfSome (g.F.Read.remaining c.args.input.now) (λ bytes.
    IsTranscript g.S.Saver.saves (transcript_of plant rules c.args.mark (session_behind plant left) (lines_of bytes))
    c.args.saver.now c.step_by_hand.new.saver (g.W.Write.contents c.args.output.now) (g.W.Write.contents c.step_by_hand.new.output))))
    (c.deref.ensures.value ∙ c.in_ok-lines.ensures) c.in_ok-step_by_hand.ensures.transcript)

pub returns-clause-refusal : goal.returns-clause-refusal
returns-clause-refusal g c =
    subst (λ known. IfSome known (λ left. None ≡ refusal_of (plant_read c.args.plant.now) left)) c.in_ok-picks.ensures c.in_ok-step_by_hand.ensures.refusal
