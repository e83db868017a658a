use Rattle.std.proofs.Common.{◌≡◌, ℤ, List, [], ◌∷◌, ◌++◌, true, map, refl, sym, ◌∙◌, ap, subst}
use Rattle.std.proofs.lemmas.List.{map-append}
use Rattle.petri_atom.specs.Local.{Local}
use Rattle.plant_model.specs.Choice.{IsAllowed}
use Rattle.plant_model.specs.Chosen.{choice_of, fired_of, firing_of}
use Rattle.plant_model.specs.Firing.{FiringDefinition, has_its_inputs}
use Rattle.plant_model.specs.Plant.{PlantDefinition}
use Rattle.plant_model.specs.Runs.{IsRun}
use Rattle.plant_model.specs.Step.{initial_states, next}
use Rattle.plant_model.specs.System.{plant_of}
use Rattle.plant_model.proofs.OnRuns.{run-folds, runs-join}
use Rattle.step_core.specs.Running.{states_in}
use Rattle.durable_tests.proofs.tests.explorer.firings_of.Goals as goal

pub loop-pick-preserved : goal.loop-pick-preserved
loop-pick-preserved c =
    let plant : PlantDefinition = plant_of c.args.system.now in
    let first : List Local = initial_states plant in
    let states : List Local = states_in c.loop-pick.stepper in
    let fired : FiringDefinition = firing_of c.nth-choice.result [] in
    let so_far : List FiringDefinition = map fired_of c.loop-pick.firings.items in
    let same = c.loop-pick.invariant.plant in
    let step : states_in c.fire.new.self ≡ next plant states fired = c.fire.ensures.next ∙ ap (λ (p : PlantDefinition). next p states fired) same in
    let allowed : IsAllowed plant states (choice_of c.nth-choice.result) = subst (λ (p : PlantDefinition). IsAllowed p states (choice_of c.nth-choice.result)) same c.nth-choice.ensures.allowed in
    let takes : has_its_inputs plant fired ≡ true = sym c.takes.ensures ∙ c.if-not-takes.false in
    let one : IsRun plant states (fired ∷ []) (states_in c.fire.new.self) = ((allowed, takes), sym step) in
    let pushed : map fired_of c.push.new.self.items ≡ so_far ++ fired ∷ [] =
    ap (λ l. map fired_of l) c.in_ok-push.ensures.items ∙ map-append fired_of c.loop-pick.firings.items ((record { choice = c.nth-choice.result; inputs = c.none.result }) ∷ []) ∙
    ap (λ (values : List ℤ). so_far ++ firing_of c.nth-choice.result values ∷ []) c.none.ensures in
    record {
      plant = c.fire.ensures.plant ∙ same;
      run = subst (λ (l : List FiringDefinition). IsRun plant first l (states_in c.fire.new.self)) (sym pushed) (runs-join plant so_far (fired ∷ []) first states (states_in c.fire.new.self) c.loop-pick.invariant.run one);
    }

pub returns : goal.returns
returns c =
    let plant : PlantDefinition = plant_of c.args.system.now in
    let first : List Local = initial_states plant in
    let fs : List FiringDefinition = map fired_of c.loop-pick.firings.items in
    let run : IsRun plant first fs (states_in c.loop-pick.stepper) = c.loop-pick.invariant.run in
    subst (λ (end : List Local). IsRun plant first fs end) (sym (run-folds plant fs first (states_in c.loop-pick.stepper) run)) run
