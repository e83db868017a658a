use Rattle.std.proofs.Common.{◌≡◌, ◌<◌, ◌≤◌, ap, arith}
use Rattle.plant_model.specs.Choice.{choices}
use Rattle.plant_model.specs.Chosen.{choice_of}
use Rattle.step_core.specs.Running.{plant_in, states_in}
use Rattle.run_text.proofs.ByConnector.{earlier, not-earlier}
use Rattle.run_text.proofs.own_numbers.first_from.Goals as goal

pub loop-low-preserved-then-from-connector : goal.loop-low-preserved-then-from-connector
loop-low-preserved-then-from-connector c =
    let plant = plant_in c.args.run.now in
    let states = states_in c.args.run.now in
    let m = choice_of c.nth.result in
    let less : m.connector < c.args.connector = omega (arith, c.from.ensures, c.if-from-connector.true) in
    record {
      ordered = omega arith;
      within = c.loop-low.invariant.within;
      before = earlier (choices plant states) (c.choices_stand_in_order.ensures.order plant states) c.args.connector _ m c.nth.ensures.entry less;
      after = c.loop-low.invariant.after;
    }

pub loop-low-preserved : goal.loop-low-preserved
loop-low-preserved c =
    let plant = plant_in c.args.run.now in
    let states = states_in c.args.run.now in
    let m = choice_of c.nth.result in
    let more : c.args.connector ≤ m.connector = omega (arith, c.from.ensures, c.if-from-connector.false) in
    record {
      ordered = omega arith;
      within = omega (arith, c.loop-low.invariant.within);
      before = c.loop-low.invariant.before;
      after = not-earlier (choices plant states) (c.choices_stand_in_order.ensures.order plant states) c.args.connector _ m c.nth.ensures.entry more;
    }
