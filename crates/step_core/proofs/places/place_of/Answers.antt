use Rattle.std.proofs.Common.{◌∙◌, sym, arith}
use Rattle.plant_model.specs.Chosen.{choice_of}
use Rattle.step_core.proofs.PlacesInOrder.{after-earlier, not-after}
use Rattle.step_core.proofs.places.place_of.Goals as goal

pub loop-low-preserved-then-is_before : goal.loop-low-preserved-then-is_before
loop-low-preserved-then-is_before g c = record {
  ordered = omega arith;
  within = c.loop-low.invariant.within;
  between = λ place there.
      let past = after-earlier (g.L.Listed.listed c.args.those.now) c.requires _ place (choice_of c.entry.result) (choice_of c.args.choice.now) c.entry.ensures (sym c.is_before.ensures ∙ c.if-is_before.true) there in
      (omega (arith, past), (c.loop-low.invariant.between place there).1);
}

pub loop-low-preserved : goal.loop-low-preserved
loop-low-preserved g c = record {
  ordered = omega arith;
  within = omega (arith, c.loop-low.invariant.within);
  between = λ place there. (
    (c.loop-low.invariant.between place there).0,
    not-after (g.L.Listed.listed c.args.those.now) c.requires _ place (choice_of c.entry.result) (choice_of c.args.choice.now) c.entry.ensures (sym c.is_before.ensures ∙ c.if-is_before.false) there,
  );
}
