use Rattle.std.proofs.Common.{◌∙◌, ◌∷◌, [], true, refl, sym}
use Rattle.std.proofs.KnownBytes.{Appends-trans}
use Rattle.plant_core.specs.Handed.{hands_of}
use Rattle.plant_core.specs.Plants.{definition_of, device_of, text_digest, view_of}
use Rattle.plant_core.proofs.EventByEvent.{driven-none}
use Rattle.script_lines.proofs.Running.{cut-of-driven, on-err}
use Rattle.script_lines.proofs.Stopping.{asked-one}
use Rattle.script_lines.proofs.strict.ask_strictly.Goals as goal

pub returns-in_err-print_not_now-clause-cut : goal.returns-in_err-print_not_now-clause-cut
returns-in_err-print_not_now-clause-cut g c =
    let p = c.args.plant.now in
    let held = hands_of c.args.hands.now in
    on-err c.from_residual.result
    (cut-of-driven (definition_of p) (text_digest p) (view_of p) (view_of p) (device_of p) (device_of p) held held [] (c.args.event.now ∷ []) []
    (driven-none (definition_of p) (text_digest p) (view_of p) (device_of p) held c.stands_for_a_front.ensures))

pub returns-in_err-end_line-clause-cut : goal.returns-in_err-end_line-clause-cut
returns-in_err-end_line-clause-cut g c =
    let p = c.args.plant.now in
    let held = hands_of c.args.hands.now in
    on-err c.from_residual-in_err-end_line.result
    (cut-of-driven (definition_of p) (text_digest p) (view_of p) (view_of p) (device_of p) (device_of p) held held [] (c.args.event.now ∷ []) []
    (driven-none (definition_of p) (text_digest p) (view_of p) (device_of p) held c.stands_for_a_front.ensures))

pub returns-then-is_past-clause-asked : goal.returns-then-is_past-clause-asked
returns-then-is_past-clause-asked g c =
    let p = c.args.plant.now in
    record {
      asked = [];
      happened = [];
      passed = true;
      driven = driven-none (definition_of p) (text_digest p) (view_of p) (device_of p) (hands_of c.args.hands.now) c.stands_for_a_front.ensures;
      stopped = (refl, refl, refl, (c.args.event.now, refl, sym c.is_past.ensures ∙ c.if-is_past.true));
      printed = Appends-trans _ _ _ _ _ c.in_ok-print_not_now.ensures c.in_ok-end_line.ensures;
    }

pub returns-clause-asked : goal.returns-clause-asked
returns-clause-asked g c =
    let p = c.args.plant.now in
    let q = c.answer.new.plant in
    asked-one (definition_of p) (text_digest p) (view_of p) (view_of q) (device_of p) (device_of q) (hands_of c.args.hands.now) (hands_of c.answer.new.hands) c.args.event.now c.in_ok-happened.happened c.refusal_in.result
    (g.W.Write.contents c.args.output.now) (g.W.Write.contents c.answer.new.output) c.in_ok-happened.ensures.answered (sym c.refusal_in.ensures)
