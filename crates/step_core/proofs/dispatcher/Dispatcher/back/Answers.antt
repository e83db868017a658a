use Rattle.std.proofs.Common.{◌<◌, ◌∙◌, ap, sym, subst, length, not, false}
use Rattle.std.specs.Prelude.{None, Some, is_none, slice_get}
use Rattle.std.specs.Option.{option_map_or}
use Rattle.std.proofs.lemmas.List.{length-set}
use Rattle.std.proofs.lemmas.Option.{slice_get_within}
use Rattle.plant_model.specs.System.{plant_of}
use Rattle.step_core.specs.Dispatching.{AllPresentFit}
use Rattle.step_core.proofs.Presence.{one-comes-fit, others-kept}
use Rattle.step_core.proofs.dispatcher.Dispatcher.back.Goals as goal

pub put-requires : goal.put-requires
put-requires c = slice_get_within c.args.self.now.parts c.args.atom None c.requires.away

pub judge_sure_flipped-requires-clause-of_plant : goal.judge_sure_flipped-requires-clause-of_plant
judge_sure_flipped-requires-clause-of_plant c =
    let run = c.args.self.now in
    ap length c.put.ensures ∙ length-set run.parts c.args.atom (Some c.args.state) ∙ run.of_plant

pub judge_sure_flipped-requires-clause-behind : goal.judge_sure_flipped-requires-clause-behind
judge_sure_flipped-requires-clause-behind c =
    let run = c.args.self.now in
    record {
      before = run.parts;
      judged = run.judged;
      as_many = sym (ap length c.put.ensures ∙ length-set run.parts c.args.atom (Some c.args.state));
      stays = λ n out. ap (λ parts. slice_get parts n) c.put.ensures ∙ others-kept run.parts c.args.atom (Some c.args.state) n out;
      present = λ n out. ap (λ o. not (option_map_or is_none o false)) (ap (λ parts. slice_get parts n) c.put.ensures ∙ others-kept run.parts c.args.atom (Some c.args.state) n out);
    }

pub invariant_of-self : goal.invariant_of-self
invariant_of-self c =
    let run = c.args.self.now in
    let plant = plant_of run.system.now in
    let within : c.args.atom < length run.parts = slice_get_within run.parts c.args.atom None c.requires.away in
    record {
      of_plant = ap length c.put.ensures ∙ length-set run.parts c.args.atom (Some c.args.state) ∙ run.of_plant;
      fits = subst (AllPresentFit plant) (sym c.put.ensures) (one-comes-fit plant run.parts c.args.atom c.args.state within c.requires.fits run.fits);
      judged = c.judge_sure_flipped.ensures;
    }
