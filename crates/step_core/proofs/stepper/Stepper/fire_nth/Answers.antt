use Rattle.std.proofs.Common.{◌∙◌, ap, sym, length, arith, []}
use Rattle.std.specs.Prelude.{slice_get}
use Rattle.std.proofs.lemmas.Option.{same_Some}
use Rattle.plant_model.specs.Choice.{choices}
use Rattle.plant_model.specs.Chosen.{choice_of}
use Rattle.plant_model.specs.Firing.{firing_by}
use Rattle.plant_model.specs.Step.{next}
use Rattle.plant_model.specs.System.{plant_of}
use Rattle.plant_model.proofs.Membership.{entry-in}
use Rattle.step_core.proofs.Judged.{all-choices, offering}
use Rattle.step_core.proofs.stepper.Stepper.fire_nth.Goals as goal

pub choose-requires : goal.choose-requires
choose-requires c =
    let run = c.args.self.now in
    record {
      of_plant = run.of_plant;
      offering = offering run.system.now run.states run.judgement run.judged;
      weights = run.judged.weights;
      place = omega (arith, c.requires, ap length (all-choices run.system.now run.states run.judgement run.judged));
    }

pub step-requires-clause-allowed : goal.step-requires-clause-allowed
step-requires-clause-allowed c =
    let run = c.args.self.now in
    entry-in (choices (plant_of run.system.now) run.states) c.args.place (choice_of c.choose.new.choice)
    (ap (λ cs. slice_get cs c.args.place) (sym (all-choices run.system.now run.states run.judgement run.judged)) ∙ c.choose.ensures)

pub invariant_of-self : goal.invariant_of-self
invariant_of-self c = record {
  of_plant = c.step.ensures.of_plant;
  fits = c.step.ensures.fits c.args.self.now.fits;
  judged = c.step.ensures.judged;
}

pub returns-clause-next : goal.returns-clause-next
returns-clause-next c choice is =
    let run = c.args.self.now in
    c.step.ensures.next ∙
    ap (λ d. next (plant_of run.system.now) run.states (firing_by d []))
    (same_Some (choice_of c.choose.new.choice) choice
    (sym c.choose.ensures ∙ ap (λ cs. slice_get cs c.args.place) (all-choices run.system.now run.states run.judgement run.judged) ∙ is))
