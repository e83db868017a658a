use Rattle.std.proofs.Common.{◌+◌, ℤ, List, sym, ◌∙◌, ap, subst, drop, map}
use Rattle.petri_atom.specs.Local.{Local}
use Rattle.plant_model.specs.Choice.{IsAllowed}
use Rattle.plant_model.specs.Chosen.{choice_of, fired_of, firing_of}
use Rattle.plant_model.specs.Firing.{FiringDefinition}
use Rattle.plant_model.specs.Plant.{PlantDefinition}
use Rattle.plant_model.specs.Runs.{IsRun, fold}
use Rattle.plant_model.specs.Step.{next}
use Rattle.step_core.specs.Running.{plant_in, states_in}
use Rattle.crash_explorer.proofs.Fronts.{left-at, run-at}
use Rattle.crash_explorer.proofs.states.fire_all.Goals as goal

pub fire-requires : goal.fire-requires
fire-requires c =
    let plant : PlantDefinition = plant_in c.args.stepper.now in
    let firings = c.args.firings.now in
    let i = c.loop-firing.firing-index in
    let item = c.firing-item.result in
    let states : List Local = states_in c.loop-firing.stepper in
    let here = run-at plant (drop i (map fired_of firings)) (drop (i + 1) (map fired_of firings)) (fired_of item) states (fold plant (states_in c.args.stepper.now) (map fired_of firings))
    (left-at fired_of firings i item c.loop-firing-test.true c.firing-item.is) c.loop-firing.invariant.run in
    subst (λ (p : PlantDefinition). IsAllowed p states (choice_of item.choice)) (sym c.loop-firing.invariant.plant) here.0.0

pub loop-firing-preserved : goal.loop-firing-preserved
loop-firing-preserved c =
    let plant : PlantDefinition = plant_in c.args.stepper.now in
    let firings = c.args.firings.now in
    let i = c.loop-firing.firing-index in
    let item = c.firing-item.result in
    let states : List Local = states_in c.loop-firing.stepper in
    let rest : List FiringDefinition = drop (i + 1) (map fired_of firings) in
    let end : List Local = fold plant (states_in c.args.stepper.now) (map fired_of firings) in
    let left = left-at fired_of firings i item c.loop-firing-test.true c.firing-item.is in
    let here = run-at plant (drop i (map fired_of firings)) rest (fired_of item) states end left c.loop-firing.invariant.run in
    let step =
    c.fire.ensures.next
    ∙ ap (λ (p : PlantDefinition). next p states (firing_of item.choice c.as_slice.result.now)) c.loop-firing.invariant.plant
    ∙ ap (λ (values : List ℤ). next plant states (firing_of item.choice values)) c.as_slice.ensures.values in
    record {
      plant = c.fire.ensures.plant ∙ c.loop-firing.invariant.plant;
      run = subst (λ (s : List Local). IsRun plant s rest end) (sym step) here.1;
      leads = ap (λ (s : List Local). fold plant s rest) step ∙ sym (ap (λ (l : List FiringDefinition). fold plant states l) left) ∙ c.loop-firing.invariant.leads;
    }
