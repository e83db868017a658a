use Rattle.std.proofs.Common.{◌≡◌, ℕ, ◌∙◌, ◌+◌, ◌∷◌, ◌++◌, [], ap, sym, subst, append-nil, codes, length}
use Rattle.std.specs.Prelude.{Some, slice_get}
use Rattle.std.specs.Io.KnownBytes.{Appends}
use Rattle.std.proofs.KnownBytes.{Appends-trans}
use Rattle.std.proofs.lemmas.List.{length_push}
use Rattle.plant_model.specs.Choice.{ChoiceDefinition, choices}
use Rattle.plant_model.specs.Chosen.{choice_of}
use Rattle.plant_model.specs.System.{plant_of}
use Rattle.step_core.specs.Running.{plant_in, states_in}
use Rattle.text_io.specs.Numbered.{numbered}
use Rattle.run_text.specs.Choices.{choice_text}
use Rattle.run_text.specs.Line.{fired_line}
use Rattle.step_session.specs.Answers.{firing_lines}
use Rattle.step_session.specs.Fired.{states_after}
use Rattle.step_session.specs.SessionOf.{session_of}
use Rattle.step_session.specs.declared.session.Session.{Session}
use Rattle.step_session.proofs.Firing.{one-fired}
use Rattle.step_session.proofs.session.Session.fire_at.Goals as goal

-- the present choices are those after what was fired
entry-behind : (session : Session) (place : ℕ) (choice : ChoiceDefinition) → slice_get (choices (plant_in session.run) (states_in session.run)) place ≡ Some choice
    → slice_get (choices (plant_in session.run) (states_after (plant_in session.run) session.fired.items)) place ≡ Some choice
entry-behind session place choice entry = ap (λ states. slice_get (choices (plant_in session.run) states) place) (sym session.stands) ∙ entry

pub fire_kept-requires : goal.fire_kept-requires
fire_kept-requires g c = entry-behind c.args.self.now c.args.place (choice_of c.nth-choice.result) c.nth-choice.ensures.entry

pub returns-clause-printed : goal.returns-clause-printed
returns-clause-printed g c =
    let session = c.args.self.now in
    let plant = plant_in session.run in
    let fired = session.fired.items in
    let choice = choice_of c.nth-choice.result in
    let entry = entry-behind session c.args.place choice c.nth-choice.ensures.entry in
    let number : c.len-number.result ≡ length fired + 1 =
    c.len-number.ensures ∙ c.fire_kept.new.self.fired.ok.0 ∙ ap (λ s. length s.fired) c.in_ok-fire_kept.ensures.session ∙ length_push fired c.args.place in
    let line : fired_line (plant_of c.system.result.now) c.len-number.result choice ++ codes "\n" ≡ firing_lines plant (session_of session) (c.args.place ∷ []) =
    ap (λ p. fired_line p c.len-number.result choice ++ codes "\n") (c.system.ensures.plant ∙ c.fire_kept.ensures.plant) ∙
    ap (λ n. fired_line plant n choice ++ codes "\n") number ∙
    sym (append-nil (choice_text plant (length fired + 1) choice)) ∙
    ap (numbered (choice_text plant) (length fired + 1)) (sym (one-fired plant (states_after plant fired) c.args.place choice entry)) in
    subst (Appends (g.W.Write.contents c.args.output.now) (g.W.Write.contents c.end_line.new.writer)) line
    (Appends-trans _ _ _ _ _ c.in_ok-print_choice.ensures c.in_ok-end_line.ensures)
