use Rattle.std.proofs.Common.{◌≡◌, ◌∙◌, ◌∷◌, [], ap, sym}
use Rattle.std.specs.Prelude.{Some, slice_get}
use Rattle.std.proofs.lemmas.Result.{on_ok_weaker}
use Rattle.plant_model.specs.Choice.{choices}
use Rattle.plant_model.specs.Chosen.{choice_of}
use Rattle.step_session.specs.Answers.{fired_more}
use Rattle.step_session.specs.Session.{states_at}
use Rattle.step_session.specs.SessionOf.{plant_stepped, session_of}
use Rattle.step_session.proofs.Placing.{place-of-entry}
use Rattle.step_session.proofs.session.Session.fire_taken.Goals as goal

pub returns-clause-session : goal.returns-clause-session
returns-clause-session c =
    let session = c.args.self.now in
    let plant = plant_stepped session in
    let states = states_at plant (session_of session) in
    let choice = choice_of c.args.choice.now in
    let entry : slice_get (choices plant states) c.in-Some.place ≡ Some choice = ap (λ s. slice_get (choices plant s) c.in-Some.place) (sym session.stands) ∙ c.in-Some.ensures.there in
    on_ok_weaker c.fire_kept.result
    (λ same. same ∙ ap (λ place. fired_more (session_of session) (place ∷ []) session.random) (sym (place-of-entry plant states c.in-Some.place choice entry)))
    c.fire_kept.ensures.session
