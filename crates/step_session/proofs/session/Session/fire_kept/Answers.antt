use Rattle.std.proofs.Common.{◌≡◌, ◌∙◌, ◌∷◌, ◌++◌, [], ap, sym, subst}
use Rattle.std.specs.Prelude.{slice_get}
use Rattle.plant_model.specs.Choice.{choices}
use Rattle.plant_model.specs.Chosen.{choice_of}
use Rattle.plant_model.specs.Step.{next}
use Rattle.plant_model.proofs.Membership.{entry-in}
use Rattle.step_core.specs.Running.{plant_in, states_in}
use Rattle.run_text.specs.Alone.{alone}
use Rattle.step_session.specs.Fired.{IsThere, states_after}
use Rattle.step_session.proofs.Firing.{behind-more, there-more}
use Rattle.step_session.proofs.session.Session.fire_kept.Goals as goal

pub fire-requires : goal.fire-requires
fire-requires c =
    let session = c.args.self.now in
    let plant = plant_in session.run in
    entry-in (choices plant (states_in session.run)) c.args.place (choice_of c.args.choice.now)
    (ap (λ states. slice_get (choices plant states) c.args.place) session.stands ∙ c.requires)

pub invariant_of-self-2 : goal.invariant_of-self-2
invariant_of-self-2 c =
    let session = c.args.self.now in
    let plant = plant_in session.run in
    let fired = session.fired.items in
    let choice = choice_of c.args.choice.now in
    let items : c.push.new.self.items ≡ fired ++ c.args.place ∷ [] = c.in_ok-push.ensures.items in
    record {
      there = subst (λ p. IsThere p c.push.new.self.items) (sym c.fire.ensures.plant)
          (subst (IsThere plant) (sym items) (there-more plant fired c.args.place choice session.there c.requires));
      stands = c.fire.ensures.next ∙ ap (λ states. next plant states (alone choice)) session.stands ∙
          sym (behind-more plant fired c.args.place choice session.there c.requires) ∙
          ap (states_after plant) (sym items) ∙ ap (λ p. states_after p c.push.new.self.items) (sym c.fire.ensures.plant);
    }
