use Rattle.std.proofs.Common.{◌≡◌, ◌∙◌, ◌+◌, ◌∷◌, [], length, subst, sym}
use Rattle.std.specs.Prelude.{IfSome, Some, option_map}
use Rattle.plant_model.specs.Choice.{IsAllowed, choices}
use Rattle.plant_model.specs.Chosen.{choice_of}
use Rattle.plant_model.specs.System.{plant_of}
use Rattle.step_session.specs.Answers.{fired_more}
use Rattle.step_session.specs.Behind.{TakesNext, place_among}
use Rattle.step_session.specs.Fired.{IsThere}
use Rattle.step_session.specs.Session.{states_at}
use Rattle.step_session.specs.SessionOf.{plant_stepped, session_of}
use Rattle.step_session.proofs.GoingOn.{IsTaking, one-taken}
use Rattle.step_session.proofs.session.Session.behind.Goals as goal

pub loop-session-preserved : goal.loop-session-preserved
loop-session-preserved g c =
    let plant = plant_of c.args.system.now in
    let l = c.loop-session in
    let same_plant = l.invariant.plant in
    let now = session_of l.session in
    let number = length now.fired + 1 in
    let left = g.P.Picks.left l.picks in
    let new = g.P.Picks.left c.next_taken.new.picks in
    let choice = choice_of c.in-Some.choice in
    let there : IsThere plant now.fired = subst (λ p. IsThere p now.fired) same_plant l.session.there in
    let allowed : IsAllowed plant (states_at plant now) choice =
    subst (λ p. IsAllowed p (states_at p now) choice) same_plant
    (subst (λ next. IfSome next (λ c. IsAllowed (plant_stepped l.session) (states_at (plant_stepped l.session) now) (choice_of c))) c.in-Some.is c.in_ok-choice.ensures.allowed) in
    let takes : TakesNext plant (states_at plant now) number left (Some choice) new =
    subst (λ p. TakesNext p (states_at p now) number left (Some choice) new) same_plant
    (subst (λ next. TakesNext (plant_stepped l.session) (states_at (plant_stepped l.session) now) number left (option_map choice_of next) new) c.in-Some.is c.in_ok-choice.ensures.takes) in
    let fired : session_of c.fire_taken.new.self ≡ fired_more now (place_among (choices plant (states_at plant now)) choice ∷ []) now.random =
    subst (λ p. session_of c.fire_taken.new.self ≡ fired_more now (place_among (choices p (states_at p now)) choice ∷ []) now.random) same_plant c.in_ok-fire_taken.ensures.session in
    record {
      plant = c.fire_taken.ensures.plant ∙ same_plant;
      taking = subst (λ s. IfSome (g.P.Picks.left c.args.picks.now) (λ picks. IsTaking plant picks s new)) (sym fired)
          (one-taken plant (g.P.Picks.left c.args.picks.now) now left l.invariant.taking new choice there allowed takes);
    }
