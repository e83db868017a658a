use Rattle.std.proofs.Common.{◌∙◌, ap, sym, subst}
use Rattle.std.specs.Prelude.{slice_get}
use Rattle.plant_model.specs.Chosen.{choice_of, firing_of}
use Rattle.plant_model.specs.Delivery.{AreApart}
use Rattle.plant_model.specs.System.{interactions_in, plant_of}
use Rattle.plant_model.proofs.OwnAtoms.{are-apart}
use Rattle.step_core.specs.Judgement.{IsMovedBehind}
use Rattle.step_core.proofs.FiringJudged.{atom-there, moved-behind}
use Rattle.step_core.proofs.firing.step.Goals as goal

pub judge_again-requires : goal.judge_again-requires
judge_again-requires c =
    let s = c.args.system.now in
    let before = c.args.states.now in
    let choice = choice_of c.args.choice.now in
    let moves = c.as_slice.ensures.moves in
    record {
      of_plant = c.fire.ensures.of_plant;
      few = c.as_slice.ensures.few;
      apart = subst AreApart (sym moves) (are-apart (plant_of s) before choice s.valid c.requires.allowed);
      there = λ k m at. atom-there s before (firing_of c.args.choice.now c.args.inputs.now) c.requires.allowed k m (ap (λ ms. slice_get ms k) (sym moves) ∙ at);
      behind = subst (λ ms. IsMovedBehind (plant_of s) (interactions_in s) s.ranks ms c.fire.new.states c.args.judgement.now) (sym moves)
          (subst (λ states. IsMovedBehind (plant_of s) (interactions_in s) s.ranks choice.moves states c.args.judgement.now) (sym c.fire.ensures.next) (moved-behind s before (firing_of c.args.choice.now c.args.inputs.now) c.requires.allowed c.args.judgement.now c.requires.judged));
    }
