use Rattle.std.proofs.Common.{◌∙◌, ap, sym, length, arith}
use Rattle.std.specs.Prelude.{slice_get}
use Rattle.plant_model.specs.Choice.{choices}
use Rattle.plant_model.specs.Chosen.{choice_of}
use Rattle.plant_model.specs.System.{plant_of}
use Rattle.plant_model.proofs.Membership.{entry-in}
use Rattle.step_core.proofs.Judged.{all-choices, offering}
use Rattle.step_core.proofs.stepper.Stepper.nth_into.Goals as goal

pub choose-requires : goal.choose-requires
choose-requires c =
    let run = c.args.self.now in
    record {
      of_plant = run.of_plant;
      offering = offering run.system.now run.states run.judgement run.judged;
      weights = run.judged.weights;
      place = omega (arith, c.requires, ap length (all-choices run.system.now run.states run.judgement run.judged));
    }

pub returns-clause-entry : goal.returns-clause-entry
returns-clause-entry c =
    let run = c.args.self.now in
    ap (λ cs. slice_get cs c.args.place) (sym (all-choices run.system.now run.states run.judgement run.judged)) ∙ c.choose.ensures

pub returns-clause-allowed : goal.returns-clause-allowed
returns-clause-allowed c =
    let run = c.args.self.now in
    entry-in (choices (plant_of run.system.now) run.states) c.args.place (choice_of c.choose.new.choice) (returns-clause-entry c)
