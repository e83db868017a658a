use Rattle.std.proofs.Common.{◌≡◌, ◌∙◌, ◌==◌, ap, sym, subst, false, codes, cond, length}
use Rattle.std.specs.Prelude.{OnOk}
use Rattle.std.specs.Io.KnownBytes.{Appends}
use Rattle.step_session.specs.Answers.{back_text, standing_text, without_last}
use Rattle.step_session.specs.SessionOf.{plant_stepped, session_of}
use Rattle.step_session.proofs.session.Session.back.Goals as goal

pub returns-clause-printed : goal.returns-clause-printed
returns-clause-printed g c =
    let plant = plant_stepped c.args.self.now in
    let session = session_of c.args.self.now in
    let after = session_of c.take_back.new.self in
    let some : (length session.fired == 0) ≡ false = ap (λ n. n == 0) (sym c.args.self.now.fired.ok.0) ∙ sym c.is_empty.ensures ∙ c.if-is_empty.false in
    let same : standing_text (plant_stepped c.take_back.new.self) after ≡ back_text plant session =
    ap (λ p. standing_text p after) c.take_back.ensures.plant ∙ ap (standing_text plant) c.in_ok-take_back.ensures.session ∙
    sym (ap (λ b. cond b (codes "nothing is fired yet\n") (standing_text plant (without_last session))) some) in
    subst (λ text. OnOk c.print_standing.result (Appends (g.W.Write.contents c.args.output.now) (g.W.Write.contents c.print_standing.new.output) text)) same c.print_standing.ensures
