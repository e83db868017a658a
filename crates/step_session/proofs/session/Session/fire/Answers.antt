use Rattle.std.proofs.Common.{◌≡◌, ◌∙◌, ◌∷◌, ◌++◌, [], ap, sym, subst, true, arith, cond, length}
use Rattle.std.specs.Prelude.{OnOk, nat_lt}
use Rattle.std.specs.Io.KnownBytes.{Appends}
use Rattle.std.proofs.lemmas.Bool.{lt-ltb}
use Rattle.plant_model.specs.Choice.{choices}
use Rattle.text_io.proofs.Leading.{printed-last}
use Rattle.step_session.specs.Answers.{choice_count, fire_text, fired_more, firing_lines, no_choice_text, standing_text}
use Rattle.step_session.specs.SessionOf.{plant_stepped, session_of}
use Rattle.step_session.proofs.session.Session.fire.Goals as goal

pub returns-clause-printed : goal.returns-clause-printed
returns-clause-printed g c =
    let run = c.args.self.now.run in
    let plant = plant_stepped c.args.self.now in
    let session = session_of c.args.self.now in
    let after = session_of c.fire_at.new.self in
    let number = c.args.number in
    let place = c.from-place.result in
    let start = g.W.Write.contents c.args.output.now in
    let now = g.W.Write.contents c.fire_at.new.output in
    let end = g.W.Write.contents c.print_standing.new.output in
    let is : place ≡ number = c.from-place.ensures in
    let counted : c.count-count.result ≡ choice_count plant session = c.count-count.ensures.count ∙ ap (λ states. length (choices plant states)) c.args.self.now.stands in
    let there : nat_lt number (choice_count plant session) ≡ true = lt-ltb number (choice_count plant session) (omega (arith, is, counted)) in
    let said = printed-last c.print_standing.result start now end (firing_lines plant session (place ∷ [])) (standing_text (plant_stepped c.fire_at.new.self) after) c.in_ok-fire_at.ensures.printed c.print_standing.ensures in
    let same : firing_lines plant session (place ∷ []) ++ standing_text (plant_stepped c.fire_at.new.self) after ≡ fire_text plant session number =
    ap (λ p. firing_lines plant session (place ∷ []) ++ standing_text p after) c.fire_at.ensures.plant ∙
    ap (λ s. firing_lines plant session (place ∷ []) ++ standing_text plant s) c.in_ok-fire_at.ensures.session ∙
    ap (λ n. firing_lines plant session (n ∷ []) ++ standing_text plant (fired_more session (n ∷ []) session.random)) is ∙
    sym (ap (λ b. cond b (firing_lines plant session (number ∷ []) ++ standing_text plant (cond b (fired_more session (number ∷ []) session.random) session)) (no_choice_text number (choice_count plant session))) there) in
    subst (λ text. OnOk c.print_standing.result (Appends start end text)) same said
