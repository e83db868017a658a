use Rattle.std.proofs.Common.{◌+◌, ◌≤◌, ◌<◌, ⊎_elim, refl, arith, ℕ, Ok, Err}
use Rattle.plant_model.specs.Plant.{PlantDefinition}
use Rattle.plant_core.specs.Plants.{definition_of, view_of}
use Rattle.plant_core.specs.View.{View}
use Rattle.plant_for_c.specs.Fires.{IsNotOf, IsOf, IsOnlyOf}
use Rattle.plant_for_c.proofs.Alone.{fired-alone}
use Rattle.plant_for_c.proofs.Entries.{order_of}
use Rattle.plant_for_c.proofs.firing.fire_by_connector.Goals as goal

-- a choice of the connector is its only one if there is none before and none behind
only-of : (plant : PlantDefinition) (v : View) (connector first : ℕ) → IsOf plant v connector first
    → ((other : ℕ) → other < first → IsNotOf plant v connector other) → ((other : ℕ) → first + 1 ≤ other → IsNotOf plant v connector other) → IsOnlyOf plant v connector first
only-of plant v connector first there before behind = record {
  there = there;
  only = λ other apart. ⊎_elim (λ same. absurd (apart same)) (λ sides. ⊎_elim (before other) (λ high. behind other (omega (arith, high))) sides) (order_of other first);
}

pub returns-in_default-clause-event : goal.returns-in_default-clause-event
returns-in_default-clause-event g c = (λ number d is own. c.in_default.ensures.before number (omega arith) d is own, refl)

pub returns-in-Ok-clause-event : goal.returns-in-Ok-clause-event
returns-in-Ok-clause-event g c =
    let first = c.in-Some.place in (
      first,
      only-of _ _ _ first c.in-Some.ensures.there (λ other. c.in-Some.ensures.before other (omega arith)) c.in_default-next_choice.ensures.before,
      fired-alone (definition_of c.args.plant.now) (view_of c.args.plant.now) (view_of c.fire.new.self) first c.none.result (Ok c.in-Ok.fired) c.none.ensures c.in-Ok.ensures.event,
    )

pub returns-in-Err-clause-event : goal.returns-in-Err-clause-event
returns-in-Err-clause-event g c =
    let first = c.in-Some.place in (
      first,
      only-of _ _ _ first c.in-Some.ensures.there (λ other. c.in-Some.ensures.before other (omega arith)) c.in_default-next_choice.ensures.before,
      fired-alone (definition_of c.args.plant.now) (view_of c.args.plant.now) (view_of c.fire.new.self) first c.none.result (Err c.in-Err.refused) c.none.ensures c.in-Err.ensures.event,
    )
