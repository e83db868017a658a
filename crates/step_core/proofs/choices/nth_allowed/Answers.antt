use Rattle.std.proofs.Common.{◌∙◌, ap, sym, length, arith}
use Rattle.std.specs.Prelude.{slice_get}
use Rattle.plant_model.specs.Choice.{choices}
use Rattle.plant_model.specs.Chosen.{choice_of}
use Rattle.plant_model.specs.System.{plant_of}
use Rattle.plant_model.proofs.Membership.{entry-in}
use Rattle.step_core.proofs.Judged.{all-choices, offering}
use Rattle.step_core.proofs.choices.nth_allowed.Goals as goal

pub choice_at-requires : goal.choice_at-requires
choice_at-requires c =
    let s = c.args.system.now in
    let states = c.args.states.now in
    let j = c.judge-judgement.result in
    record {
      of_plant = c.requires.of_plant;
      offering = offering s states j c.judge-judgement.ensures;
      weights = c.judge-judgement.ensures.weights;
      place = omega (arith, c.requires.place, ap length (all-choices s states j c.judge-judgement.ensures));
    }

pub returns-clause-entry : goal.returns-clause-entry
returns-clause-entry c =
    ap (λ cs. slice_get cs c.args.place) (sym (all-choices c.args.system.now c.args.states.now c.judge-judgement.result c.judge-judgement.ensures)) ∙ c.choice_at.ensures

pub returns-clause-allowed : goal.returns-clause-allowed
returns-clause-allowed c =
    entry-in (choices (plant_of c.args.system.now) c.args.states.now) c.args.place (choice_of c.choice_at.result) (returns-clause-entry c)
