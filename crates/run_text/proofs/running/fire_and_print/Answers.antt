use Rattle.std.proofs.Common.{◌≡◌, ◌∙◌, ap, sym, subst}
use Rattle.plant_model.specs.Chosen.{choice_of}
use Rattle.plant_model.specs.Delivery.{IsDelivered}
use Rattle.plant_model.specs.Fitting.{IsOf}
use Rattle.plant_model.specs.Step.{next, transfer}
use Rattle.step_core.specs.Running.{plant_in, states_in}
use Rattle.run_text.specs.Alone.{alone}
use Rattle.run_text.proofs.running.fire_and_print.Goals as goal

pub tell_fired-requires : goal.tell_fired-requires
tell_fired-requires g c =
    let run = c.args.run.now in
    let before = states_in run in
    let choice = c.args.choice.now in
    let fired = c.fire_telling.ensures in
    let same : plant_in run ≡ plant_in c.fire_telling.new.self = sym fired.plant in (
      c.requires.ready.0,
      before,
      subst (λ p. g.T.Telling.IsReady c.args.telling.now p c.requires.ready.0 before) same c.requires.ready.1,
      record {
        of_plant = subst (λ p. IsOf p before) same run.of_plant;
        after = fired.next ∙ ap (λ p. next p before (alone (choice_of choice))) same;
        rows = subst (λ p. IsDelivered choice.moves (transfer p before (alone (choice_of choice))) c.fire_telling.new.delivered) same fired.delivered;
      },
    )
