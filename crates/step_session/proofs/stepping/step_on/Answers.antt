use Rattle.std.proofs.Common.{subst}
use Rattle.std.specs.Io.KnownBytes.{Appends}
use Rattle.std.proofs.KnownBytes.{Appends-trans}
use Rattle.std.proofs.lemmas.Option.{IfSome_then}
use Rattle.std.proofs.lemmas.Result.{on_ok_weaker}
use Rattle.plant_words.specs.Lines.{lines_of}
use Rattle.step_session.specs.Answers.{standing_text}
use Rattle.step_session.specs.Mark.{end_text, ended_text}
use Rattle.step_session.specs.SessionOf.{plant_stepped, session_of}
use Rattle.step_session.specs.Transcript.{transcript_from}
use Rattle.step_session.proofs.SoFar.{told-behind}
use Rattle.step_session.proofs.stepping.step_on.Goals as goal

pub returns : goal.returns
returns g c =
    let plant = plant_stepped c.args.session.now in
    let first = session_of c.args.session.now in
    let start = g.W.Write.contents c.args.output.now in
    let stood = g.W.Write.contents c.print_standing.new.output in
    let old = g.W.Write.contents c.print_text.new.writer in
    let new = g.W.Write.contents c.answer_lines.new.output in
    let standing = standing_text plant first in
    let begun : Appends start old (ended_text c.args.mark standing) =
    Appends-trans start stood old standing (end_text c.args.mark) c.in_ok-print_standing.ensures (subst (Appends stood old) c.end.ensures c.in_ok-print_text.ensures) in
    on_ok_weaker c.answer_lines.result
    (λ transcript. IfSome_then (g.R.Read.remaining c.args.input.now) transcript
    (λ bytes t. told-behind g.S.Saver.saves (transcript_from plant c.args.rule_lines.now c.args.mark first (lines_of bytes)) c.args.saver.now c.answer_lines.new.saver start old new (ended_text c.args.mark standing)
    begun t))
    c.answer_lines.ensures
