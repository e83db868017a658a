use Rattle.std.proofs.Common.{◌≡◌, ◌∙◌, ◌∷◌, [], ap, sym, subst, refl, true, false}
use Rattle.std.specs.Io.KnownBytes.{Appends}
use Rattle.std.proofs.lemmas.Result.{on_ok_weaker}
use Rattle.plant_words.specs.Lines.{lines_of}
use Rattle.step_session.specs.Command.{ends}
use Rattle.step_session.specs.CommandOf.{command_of}
use Rattle.step_session.specs.Mark.{end_text, last_text, prompt_text}
use Rattle.step_session.specs.SessionOf.{plant_stepped, session_of}
use Rattle.step_session.specs.Transcript.{IsAnswered}
use Rattle.step_session.proofs.Answering.{all-lines-left, end-told, last-told, line-told}
use Rattle.step_session.proofs.stepping.answer_lines.Goals as goal

pub loop-init : goal.loop-init
loop-init g c = record {
  plant = refl;
  transcript = all-lines-left g.S.Saver.saves (plant_stepped c.args.session.now) c.args.rule_lines.now c.args.mark (session_of c.args.session.now) c.args.saver.now (g.W.Write.contents c.args.output.now)
      (g.R.Read.remaining c.args.input.now);
}

pub returns-in_default : goal.returns-in_default
returns-in_default g c =
    let now = session_of c.loop.session in
    let out = g.W.Write.contents c.loop.output in
    let prompted = g.W.Write.contents c.print_text.new.writer in
    let flushed = g.W.Write.contents c.hand_on.new.output in
    let new = g.W.Write.contents c.print_text-in_default.new.writer in
    let held = c.read_line.new.line.items in
    let cuts : lines_of held ≡ [] = ap lines_of (sym c.as_slice.ensures.value) ∙ sym c.new.ensures.lines ∙ c.in_default.ensures.line in
    let shown : Appends out prompted (prompt_text c.args.mark) = subst (Appends out prompted) c.prompt.ensures c.in_ok-print_text.ensures in
    let printed : Appends flushed new (last_text c.args.mark) = subst (Appends flushed new) c.last.ensures c.in_ok-print_text-2.ensures in
    on_ok_weaker c.hand_on-in_default.result
    (λ kept. end-told g.S.Saver.saves (plant_stepped c.args.session.now) c.args.rule_lines.now c.args.mark (session_of c.args.session.now) c.args.saver.now (g.W.Write.contents c.args.output.now) now c.loop.saver
    out prompted flushed shown c.in_ok-hand_on.ensures
    held (g.R.Read.remaining c.loop.input) c.in_ok-read_line.ensures.kept (g.R.Read.remaining c.args.input.now) new (g.W.Write.contents c.hand_on-in_default.new.output) cuts printed kept c.loop.invariant.transcript)
    c.hand_on-in_default.ensures

pub returns-then-ends : goal.returns-then-ends
returns-then-ends g c =
    let plant = plant_stepped c.args.session.now in
    let rules = c.args.rule_lines.now in
    let now = session_of c.loop.session in
    let after = session_of c.answer.new.self in
    let command = command_of c.read_command-command.result in
    let out = g.W.Write.contents c.loop.output in
    let prompted = g.W.Write.contents c.print_text.new.writer in
    let flushed = g.W.Write.contents c.hand_on.new.output in
    let new = g.W.Write.contents c.answer.new.output in
    let ended = g.W.Write.contents c.print_text-in-loop.new.writer in
    let held = c.read_line.new.line.items in
    let cuts : lines_of held ≡ c.in-Some.typed.now ∷ c.next_line.new.self = ap lines_of (sym c.as_slice.ensures.value) ∙ sym c.new.ensures.lines ∙ c.in-Some.ensures.line in
    let over : ends command ≡ true = sym c.ends.ensures ∙ c.if-ends.true in
    let shown : Appends out prompted (prompt_text c.args.mark) = subst (Appends out prompted) c.prompt.ensures c.in_ok-print_text.ensures in
    let marked : Appends new ended (end_text c.args.mark) = subst (Appends new ended) c.end.ensures c.in_ok-print_text-3.ensures in
    let answered : IsAnswered g.S.Saver.saves plant rules now command after c.loop.saver c.answer.new.saver flushed new =
    subst (λ p. IsAnswered g.S.Saver.saves p rules now command after c.loop.saver c.answer.new.saver flushed new) c.loop.invariant.plant c.in_ok-answer.ensures.answered in
    on_ok_weaker c.hand_on-then-ends.result
    (λ kept. last-told g.S.Saver.saves plant rules c.args.mark (session_of c.args.session.now) c.args.saver.now (g.W.Write.contents c.args.output.now) now c.loop.saver
    out prompted flushed shown c.in_ok-hand_on.ensures
    held (g.R.Read.remaining c.loop.input) c.in_ok-read_line.ensures.kept c.in-Some.typed.now c.next_line.new.self cuts (g.R.Read.remaining c.read_line.new.reader) c.in_ok-read_line.ensures.left
    after command c.answer.new.saver new ended c.read_command-command.ensures answered marked (g.R.Read.remaining c.args.input.now) (g.W.Write.contents c.hand_on-then-ends.new.output) over kept c.loop.invariant.transcript)
    c.hand_on-then-ends.ensures

pub loop-preserved : goal.loop-preserved
loop-preserved g c =
    let plant = plant_stepped c.args.session.now in
    let rules = c.args.rule_lines.now in
    let now = session_of c.loop.session in
    let after = session_of c.answer.new.self in
    let command = command_of c.read_command-command.result in
    let out = g.W.Write.contents c.loop.output in
    let prompted = g.W.Write.contents c.print_text.new.writer in
    let flushed = g.W.Write.contents c.hand_on.new.output in
    let new = g.W.Write.contents c.answer.new.output in
    let ended = g.W.Write.contents c.print_text-in-loop.new.writer in
    let held = c.read_line.new.line.items in
    let cuts : lines_of held ≡ c.in-Some.typed.now ∷ c.next_line.new.self = ap lines_of (sym c.as_slice.ensures.value) ∙ sym c.new.ensures.lines ∙ c.in-Some.ensures.line in
    let on : ends command ≡ false = sym c.ends.ensures ∙ c.if-ends.false in
    let shown : Appends out prompted (prompt_text c.args.mark) = subst (Appends out prompted) c.prompt.ensures c.in_ok-print_text.ensures in
    let marked : Appends new ended (end_text c.args.mark) = subst (Appends new ended) c.end.ensures c.in_ok-print_text-3.ensures in
    let answered : IsAnswered g.S.Saver.saves plant rules now command after c.loop.saver c.answer.new.saver flushed new =
    subst (λ p. IsAnswered g.S.Saver.saves p rules now command after c.loop.saver c.answer.new.saver flushed new) c.loop.invariant.plant c.in_ok-answer.ensures.answered in
    record {
      plant = c.answer.ensures.plant ∙ c.loop.invariant.plant;
      transcript = line-told g.S.Saver.saves plant rules c.args.mark (session_of c.args.session.now) c.args.saver.now (g.W.Write.contents c.args.output.now) now c.loop.saver
          out prompted flushed shown c.in_ok-hand_on.ensures
          held (g.R.Read.remaining c.loop.input) c.in_ok-read_line.ensures.kept c.in-Some.typed.now c.next_line.new.self cuts (g.R.Read.remaining c.read_line.new.reader) c.in_ok-read_line.ensures.left
          after command c.answer.new.saver new ended c.read_command-command.ensures answered marked (g.R.Read.remaining c.args.input.now) on c.loop.invariant.transcript;
    }
