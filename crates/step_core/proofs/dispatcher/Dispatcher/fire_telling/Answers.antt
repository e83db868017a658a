use Rattle.std.proofs.Common.{◌∙◌, ap, sym, subst, length}
use Rattle.std.specs.Prelude.{slice_get}
use Rattle.petri_atom.specs.Local.{is_in}
use Rattle.plant_model.specs.Chosen.{choice_of, firing_of}
use Rattle.plant_model.specs.Delivery.{AreApart}
use Rattle.plant_model.specs.Step.{transfer}
use Rattle.plant_model.specs.System.{plant_of}
use Rattle.plant_model.proofs.Membership.{entry-in}
use Rattle.plant_model.proofs.OwnAtoms.{are-apart}
use Rattle.step_core.specs.EnabledTransitions.{atoms_of}
use Rattle.step_core.specs.Parts.{is_present, shown_in}
use Rattle.step_core.proofs.FiringOfParts.{fires, length-moved, offered-before, part-stays, presence-stays}
use Rattle.step_core.proofs.Present.{sure-in-range, sure-shown}
use Rattle.step_core.proofs.Refreshing.{of-no-move}
use Rattle.step_core.proofs.dispatcher.Dispatcher.fire_telling.Goals as goal

pub judge_sure_moved-requires-clause-of_plant : goal.judge_sure_moved-requires-clause-of_plant
judge_sure_moved-requires-clause-of_plant c =
    let run = c.args.self.now in
    let plant = plant_of run.system.now in
    let choice = choice_of c.args.choice.now in
    ap length c.fire.ensures.parts ∙ length-moved plant.atoms choice.moves (transfer plant (shown_in run.parts) (firing_of c.args.choice.now c.args.inputs.now)) 0 run.parts ∙ run.of_plant

pub judge_sure_moved-requires-clause-apart : goal.judge_sure_moved-requires-clause-apart
judge_sure_moved-requires-clause-apart c =
    let run = c.args.self.now in
    let plant = plant_of run.system.now in
    let choice = choice_of c.args.choice.now in
    subst AreApart (sym c.as_slice-moves.ensures.moves) (are-apart plant (shown_in run.parts) choice run.system.now.valid (sure-shown plant run.parts choice c.requires))

pub judge_sure_moved-requires-clause-there : goal.judge_sure_moved-requires-clause-there
judge_sure_moved-requires-clause-there c k m at =
    let run = c.args.self.now in
    let plant = plant_of run.system.now in
    let choice = choice_of c.args.choice.now in
    (sure-in-range plant run.parts choice c.requires run.system.now.valid).of_plant m (entry-in choice.moves k m (ap (λ ms. slice_get ms k) (sym c.as_slice-moves.ensures.moves) ∙ at))

pub judge_sure_moved-requires-clause-behind : goal.judge_sure_moved-requires-clause-behind
judge_sure_moved-requires-clause-behind c =
    let run = c.args.self.now in
    let plant = plant_of run.system.now in
    let choice = choice_of c.args.choice.now in
    let moves = c.as_slice-moves.ensures.moves in
    record {
      behind = record {
        before = run.parts;
        judged = run.judged;
        as_many = sym (ap length c.fire.ensures.parts ∙ length-moved plant.atoms choice.moves (transfer plant (shown_in run.parts) (firing_of c.args.choice.now c.args.inputs.now)) 0 run.parts);
        stays = λ n out. ap (λ parts. slice_get parts n) c.fire.ensures.parts ∙ part-stays plant run.parts (firing_of c.args.choice.now c.args.inputs.now) n (of-no-move choice.moves n (ap (λ ms. is_in (atoms_of ms) n) (sym moves) ∙ out));
        present = λ n out. ap (λ parts. is_present parts n) c.fire.ensures.parts ∙ presence-stays plant run.parts (firing_of c.args.choice.now c.args.inputs.now) n;
      };
      fired = λ k m a before after at known was is.
          let in_it = entry-in choice.moves k m (ap (λ ms. slice_get ms k) (sym moves) ∙ at) in
          let now = ap (λ parts. slice_get (shown_in parts) m.atom) (sym c.fire.ensures.parts) ∙ is in (
            offered-before plant run.system.now.valid run.parts (firing_of c.args.choice.now c.args.inputs.now) c.requires m in_it a before after known was now,
            (transfer plant (shown_in run.parts) (firing_of c.args.choice.now c.args.inputs.now) m.atom, fires plant run.system.now.valid run.parts (firing_of c.args.choice.now c.args.inputs.now) c.requires m in_it a before after known was now),
          );
    }

pub invariant_of-self : goal.invariant_of-self
invariant_of-self c =
    let run = c.args.self.now in
    let plant = plant_of run.system.now in
    let choice = choice_of c.args.choice.now in
    record {
      of_plant = ap length c.fire.ensures.parts ∙ length-moved plant.atoms choice.moves (transfer plant (shown_in run.parts) (firing_of c.args.choice.now c.args.inputs.now)) 0 run.parts ∙ run.of_plant;
      fits = c.fire.ensures.fits run.fits;
      judged = c.judge_sure_moved.ensures;
    }
