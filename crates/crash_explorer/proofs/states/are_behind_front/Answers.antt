use Rattle.std.proofs.Common.{◌≡◌, ℕ, ◌+◌, ◌-◌, ◌≤◌, List, ◌++◌, length, map, take, sym, ◌∙◌, ap, subst, arith}
use Rattle.std.proofs.lemmas.List.{length-map}
use Rattle.petri_atom.specs.Local.{Local}
use Rattle.plant_model.specs.Firing.{FiringDefinition}
use Rattle.plant_model.specs.Chosen.{fired_of}
use Rattle.plant_model.specs.Plant.{PlantDefinition}
use Rattle.plant_model.specs.Runs.{IsRun, fold}
use Rattle.plant_model.specs.System.{plant_of}
use Rattle.step_core.specs.Running.{plant_in, states_in}
use Rattle.crash_explorer.specs.Judging.{state_after}
use Rattle.crash_explorer.proofs.Fronts.{acked-run, cut-front, front-leads, front-run}
use Rattle.crash_explorer.proofs.states.are_behind_front.Goals as goal

-- firings lead somewhere from a state by a run
abbrev RunsOn : PlantDefinition → List Local → List FiringDefinition → Type 0
RunsOn plant states cs = IsRun plant states cs (fold plant states cs)

pub fire_all-requires : goal.fire_all-requires
fire_all-requires c =
    let plant : PlantDefinition = plant_of c.args.system.now in
    let acked : List FiringDefinition = map fired_of c.args.acked.now in
    let tail : List FiringDefinition = map fired_of c.args.tail.now in
    let states : List Local = states_in c.in_ok-stepper.stepper in
    subst (λ (p : PlantDefinition). RunsOn p states acked) (sym c.in_ok-stepper.ensures.plant)
    (subst (λ (s : List Local). RunsOn plant s acked) (sym c.in_ok-stepper.ensures.first) (acked-run plant acked tail c.requires))

pub fire_all-requires-2 : goal.fire_all-requires-2
fire_all-requires-2 c =
    let plant : PlantDefinition = plant_of c.args.system.now in
    let acked : List FiringDefinition = map fired_of c.args.acked.now in
    let tail : List FiringDefinition = map fired_of c.args.tail.now in
    let k : ℕ = c.args.number - length c.args.acked.now in
    let part : List FiringDefinition = map fired_of (take k c.args.tail.now) in
    let first : List Local = states_in c.in_ok-stepper.stepper in
    let states : List Local = states_in c.fire_all.new.stepper in
    let ran : plant_in c.in_ok-stepper.stepper ≡ plant = c.in_ok-stepper.ensures.plant in
    let runs : plant_in c.fire_all.new.stepper ≡ plant = c.fire_all.ensures.plant ∙ ran in
    let there : states ≡ state_after plant acked =
    c.fire_all.ensures.states ∙ ap (λ (p : PlantDefinition). fold p first acked) ran ∙ ap (λ (s : List Local). fold plant s acked) c.in_ok-stepper.ensures.first in
    subst (λ (p : PlantDefinition). RunsOn p states part) (sym runs)
    (subst (λ (s : List Local). RunsOn plant s part) (sym there)
    (subst (λ (l : List FiringDefinition). RunsOn plant (state_after plant acked) l) (sym (cut-front fired_of k c.args.tail.now)) (front-run plant acked tail k c.requires)))

pub returns : goal.returns
returns c =
    let plant : PlantDefinition = plant_of c.args.system.now in
    let acked : List FiringDefinition = map fired_of c.args.acked.now in
    let tail : List FiringDefinition = map fired_of c.args.tail.now in
    let k : ℕ = c.args.number - length c.args.acked.now in
    let part : List FiringDefinition = map fired_of (take k c.args.tail.now) in
    let first : List Local = states_in c.in_ok-stepper.stepper in
    let states : List Local = states_in c.fire_all.new.stepper in
    let ran : plant_in c.in_ok-stepper.stepper ≡ plant = c.in_ok-stepper.ensures.plant in
    let runs : plant_in c.fire_all.new.stepper ≡ plant = c.fire_all.ensures.plant ∙ ran in
    let there : states ≡ state_after plant acked =
    c.fire_all.ensures.states ∙ ap (λ (p : PlantDefinition). fold p first acked) ran ∙ ap (λ (s : List Local). fold plant s acked) c.in_ok-stepper.ensures.first in
    let reached : c.states.result.now ≡ state_after plant (acked ++ take k tail) =
    c.states.ensures.states
    ∙ c.fire_all-2.ensures.states
    ∙ ap (λ (p : PlantDefinition). fold p states part) runs
    ∙ ap (λ (s : List Local). fold plant s part) there
    ∙ ap (λ (l : List FiringDefinition). fold plant (state_after plant acked) l) (cut-front fired_of k c.args.tail.now)
    ∙ front-leads plant acked tail k in
    let acked_many : length acked ≡ length c.args.acked.now = length-map c.args.acked.now fired_of in
    let tail_many : length tail ≡ length c.args.tail.now = length-map c.args.tail.now fired_of in
    let within : k ≤ length tail = omega arith in
    let number : c.args.number ≡ length acked + k = omega arith in (
      λ same. (k, within, sym (c.are_same.ensures.0 same) ∙ reached, number),
      λ found.
          let j : ℕ = found.0 in
          let as_many : k ≡ j = omega (arith, found.3) in
          c.are_same.ensures.1 (reached ∙ ap (λ (n : ℕ). state_after plant (acked ++ take n tail)) as_many ∙ sym found.2),
    )
