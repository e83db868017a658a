use Rattle.std.proofs.Common.{◌≡◌, ◌∙◌, ◌++◌, ap, subst}
use Rattle.std.specs.Prelude.{OnOk}
use Rattle.std.specs.Io.KnownBytes.{Appends}
use Rattle.std.proofs.KnownBytes.{Appends-trans}
use Rattle.text_io.proofs.Leading.{printed-last}
use Rattle.step_session.specs.Answers.{count_until, firing_lines, go_until_text, standing_text, stop_text}
use Rattle.step_session.specs.Random.{random_places}
use Rattle.step_session.specs.SessionOf.{plant_stepped, session_of}
use Rattle.step_session.proofs.session.Session.go_until.Goals as goal

pub returns-clause-printed : goal.returns-clause-printed
returns-clause-printed g c =
    let plant = plant_stepped c.args.self.now in
    let session = session_of c.args.self.now in
    let connector = c.args.connector in
    let most = c.args.most in
    let after = session_of c.fire_towards.new.self in
    let stepped = plant_stepped c.fire_towards.new.self in
    let lines = firing_lines plant session (random_places plant session (count_until plant session connector most)) in
    let start = g.W.Write.contents c.args.output.now in
    let fired = g.W.Write.contents c.fire_towards.new.output in
    let stood = g.W.Write.contents c.print_standing.new.output in
    let end = g.W.Write.contents c.print_stop.new.output in
    let same : lines ++ standing_text stepped after ++ stop_text stepped after connector most ≡ go_until_text plant session connector most =
    ap (λ p. lines ++ standing_text p after ++ stop_text p after connector most) c.fire_towards.ensures.plant ∙
    ap (λ s. lines ++ standing_text plant s ++ stop_text plant s connector most) c.in_ok-fire_towards.ensures.fired.0 in
    subst (λ text. OnOk c.print_stop.result (Appends start end text)) same
    (printed-last c.print_stop.result start stood end (lines ++ standing_text stepped after) (stop_text stepped after connector most)
    (Appends-trans start fired stood lines (standing_text stepped after) c.in_ok-fire_towards.ensures.fired.1 c.in_ok-print_standing.ensures) c.print_stop.ensures)
