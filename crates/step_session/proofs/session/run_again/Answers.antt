use Rattle.std.proofs.Common.{◌∙◌, ◌<◌, arith, length}
use Rattle.plant_model.specs.Chosen.{choice_of}
use Rattle.plant_model.specs.System.{plant_of}
use Rattle.step_core.specs.Running.{plant_in, states_in}
use Rattle.step_session.proofs.Firing.{place-within, stands-next}
use Rattle.step_session.proofs.session.run_again.Goals as goal

pub nth-choice-requires : goal.nth-choice-requires
nth-choice-requires c =
    let i = c.loop-place.place-index in
    let within : i < length c.args.places.now = omega arith in
    let l = c.loop-place in
    place-within (plant_of c.args.system.now) c.args.places.now c.requires i within (plant_in l.run) (states_in l.run) l.invariant.plant l.invariant.states

pub loop-place-preserved : goal.loop-place-preserved
loop-place-preserved c =
    let i = c.loop-place.place-index in
    let within : i < length c.args.places.now = omega arith in
    let l = c.loop-place in
    record {
      plant = c.fire.ensures.plant ∙ l.invariant.plant;
      states = c.fire.ensures.next ∙
          stands-next (plant_of c.args.system.now) c.args.places.now c.requires i within (plant_in l.run) (states_in l.run) l.invariant.plant l.invariant.states (choice_of c.nth-choice.result) c.nth-choice.ensures.entry;
    }
