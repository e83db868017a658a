use Rattle.std.proofs.Common.{arith}
use Rattle.plant_model.specs.Chosen.{choice_of}
use Rattle.step_core.specs.Running.{plant_in, states_in}
use Rattle.plant_drawing.proofs.Ordered.{earlier-up-to, later-from}
use Rattle.plant_drawing.proofs.choice.first_from.Goals as goal

pub loop-low-preserved-then-from-connector : goal.loop-low-preserved-then-from-connector
loop-low-preserved-then-from-connector c = record {
  ordered = omega arith;
  within = c.loop-low.invariant.within;
  earlier = earlier-up-to (plant_in c.args.run.now) (states_in c.args.run.now) c.args.connector _ (choice_of c.nth.result) c.nth.ensures.entry (omega (arith, c.from.ensures));
  later = c.loop-low.invariant.later;
}

pub loop-low-preserved : goal.loop-low-preserved
loop-low-preserved c = record {
  ordered = omega arith;
  within = omega (arith, c.loop-low.invariant.within);
  earlier = c.loop-low.invariant.earlier;
  later = later-from (plant_in c.args.run.now) (states_in c.args.run.now) c.args.connector _ (choice_of c.nth.result) c.nth.ensures.entry (omega (arith, c.from.ensures));
}
