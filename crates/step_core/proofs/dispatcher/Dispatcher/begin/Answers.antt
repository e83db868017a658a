use Rattle.std.proofs.Common.{◌≡◌, ◌∙◌, ap, sym, subst, map, take, length, not, false}
use Rattle.std.specs.Prelude.{is_none, slice_get}
use Rattle.std.specs.Option.{option_map_or}
use Rattle.petri_atom.specs.Local.{is_in}
use Rattle.plant_model.specs.Chosen.{choice_of}
use Rattle.plant_model.specs.System.{plant_of}
use Rattle.step_core.specs.Dispatching.{AllPresentFit}
use Rattle.step_core.proofs.PartsLeft.{left-fits, left-stays, length-left}
use Rattle.step_core.proofs.Presence.{no-move}
use Rattle.step_core.proofs.dispatcher.Dispatcher.begin.Goals as goal

pub judge_sure_flipped-requires-clause-of_plant : goal.judge_sure_flipped-requires-clause-of_plant
judge_sure_flipped-requires-clause-of_plant c =
    let run = c.args.self.now in
    ap length c.leave.ensures.parts ∙ length-left c.args.choice.now.moves 0 run.parts ∙ run.of_plant

pub judge_sure_flipped-requires-clause-behind : goal.judge_sure_flipped-requires-clause-behind
judge_sure_flipped-requires-clause-behind c =
    let run = c.args.self.now in
    let choice = choice_of c.args.choice.now in
    let moves = c.as_slice-moves.result.now in
    let atoms : take (length moves) c.atoms_of-atoms.result ≡ map (λ m. m.atom) choice.moves = c.atoms_of-atoms.ensures.atoms ∙ ap (map (λ m. m.atom)) c.as_slice-moves.ensures.moves in
    record {
      before = run.parts;
      judged = run.judged;
      as_many = sym (ap length c.leave.ensures.parts ∙ length-left choice.moves 0 run.parts);
      stays = λ n out. ap (λ parts. slice_get parts n) c.leave.ensures.parts ∙ left-stays choice.moves run.parts n (no-move choice.moves n (ap (λ atoms. is_in atoms n) (sym atoms) ∙ out));
      present = λ n out. ap (λ o. not (option_map_or is_none o false)) (ap (λ parts. slice_get parts n) c.leave.ensures.parts ∙ left-stays choice.moves run.parts n (no-move choice.moves n (ap (λ atoms. is_in atoms n) (sym atoms) ∙ out)));
    }

pub invariant_of-self : goal.invariant_of-self
invariant_of-self c =
    let run = c.args.self.now in
    let plant = plant_of run.system.now in
    record {
      of_plant = ap length c.leave.ensures.parts ∙ length-left c.args.choice.now.moves 0 run.parts ∙ run.of_plant;
      fits = subst (AllPresentFit plant) (sym c.leave.ensures.parts) (left-fits plant c.args.choice.now.moves run.parts run.fits);
      judged = c.judge_sure_flipped.ensures;
    }
