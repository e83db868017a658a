use Rattle.std.proofs.Common.{◌∙◌, ap, sym, subst, length}
use Rattle.std.proofs.lemmas.List.{length-set}
use Rattle.std.specs.Prelude.{slice_get}
use Rattle.plant_model.specs.Fitting.{AllFit}
use Rattle.plant_model.specs.System.{plant_of}
use Rattle.step_core.proofs.Refreshing.{others-stay, one-set-fits}
use Rattle.step_core.proofs.stepper.Stepper.set.Goals as goal

pub judge_atom_again-requires : goal.judge_atom_again-requires
judge_atom_again-requires c =
    let run = c.args.self.now in
    let many = ap length c.set.ensures ∙ length-set run.states c.args.atom c.args.state in
    record {
      of_plant = many ∙ run.of_plant;
      behind = record {
        before = run.states;
        judged = run.judged;
        as_many = sym many;
        stays = λ n out. ap (λ states. slice_get states n) c.set.ensures ∙ others-stay run.states c.args.atom c.args.state n out;
      };
    }

pub invariant_of-self : goal.invariant_of-self
invariant_of-self c =
    let run = c.args.self.now in
    record {
      of_plant = ap length c.set.ensures ∙ length-set run.states c.args.atom c.args.state ∙ run.of_plant;
      fits = subst (AllFit (plant_of run.system.now)) (sym c.set.ensures) (one-set-fits (plant_of run.system.now) run.states c.args.atom c.args.state c.requires.there c.requires.fits run.fits);
      judged = c.judge_atom_again.ensures;
    }
