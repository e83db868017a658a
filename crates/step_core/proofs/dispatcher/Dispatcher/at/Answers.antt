use Rattle.std.proofs.Common.{◌∙◌, ap, sym, subst, length}
use Rattle.std.specs.Prelude.{Some}
use Rattle.std.proofs.lemmas.List.{length-map}
use Rattle.plant_model.specs.System.{interactions_in, plant_of}
use Rattle.step_core.specs.Dispatching.{AllPresentFit}
use Rattle.step_core.specs.SureJudgement.{IsSureJudgement}
use Rattle.step_core.proofs.Presence.{all-fit}
use Rattle.step_core.proofs.dispatcher.Dispatcher.at.Goals as goal

pub invariant_of-result : goal.invariant_of-result
invariant_of-result c =
    let system = c.args.system.now in
    record {
      of_plant = ap length c.all.ensures ∙ length-map c.args.states Some ∙ c.requires.of_plant;
      fits = subst (AllPresentFit (plant_of system)) (sym c.all.ensures) (all-fit (plant_of system) c.args.states c.requires.fits);
      judged = subst (λ parts. IsSureJudgement (plant_of system) (interactions_in system) system.ranks parts c.judge_sure-judgement.result) (sym c.all.ensures) c.judge_sure-judgement.ensures;
    }
