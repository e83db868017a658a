use Rattle.std.proofs.Common.{◌≡◌, ◌∙◌, ◌-◌, ap, sym, subst, take}
use Rattle.step_core.specs.Running.{plant_in, states_in}
use Rattle.step_session.specs.Fired.{IsThere, states_after}
use Rattle.step_session.proofs.Firing.{take-there}
use Rattle.step_session.proofs.session.Session.take_back.Goals as goal

pub run_again-requires : goal.run_again-requires
run_again-requires c =
    let session = c.args.self.now in
    let left = c.len-left.result - 1 in
    subst (λ plant. IsThere plant (take left c.deref.result.now)) (sym c.system.ensures.plant)
    (subst (λ places. IsThere (plant_in session.run) (take left places)) (sym c.deref.ensures.value) (take-there (plant_in session.run) session.fired.items left session.there))

pub invariant_of-self : goal.invariant_of-self
invariant_of-self c =
    let session = c.args.self.now in
    let plant = plant_in session.run in
    let fired = session.fired.items in
    let left = c.len-left.result - 1 in
    let kept = c.truncate.new.self.items in
    let same : plant_in c.replace.new.dest ≡ plant = ap plant_in c.replace.ensures.after ∙ c.in_ok-run.ensures.plant ∙ c.system.ensures.plant in
    let items : kept ≡ take left fired = c.truncate.ensures.items in
    record {
      there = subst (λ p. IsThere p kept) (sym same) (subst (IsThere plant) (sym items) (take-there plant fired left session.there));
      stands = ap states_in c.replace.ensures.after ∙ c.in_ok-run.ensures.states ∙
          ap (λ p. states_after p (take left c.deref.result.now)) c.system.ensures.plant ∙ ap (λ places. states_after plant (take left places)) c.deref.ensures.value ∙
          ap (states_after plant) (sym items) ∙ ap (λ p. states_after p kept) (sym same);
    }
