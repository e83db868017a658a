use Rattle.std.proofs.Common.{◌++◌, ◌∷◌, [], ◌∙◌, codes, subst}
use Rattle.std.specs.Io.KnownBytes.{Appends}
use Rattle.std.proofs.KnownBytes.{Appends-trans}
use Rattle.plant_core.specs.Handed.{hands_of}
use Rattle.plant_core.specs.Plants.{definition_of, device_of, text_digest, view_of}
use Rattle.plant_core.proofs.EventByEvent.{driven-one}
use Rattle.script_lines.specs.Answers.{happened_line}
use Rattle.script_lines.proofs.Running.{cut-of-driven, on-err}
use Rattle.script_lines.proofs.run.tell.Goals as goal

pub returns-in_err-print_happened-clause-cut : goal.returns-in_err-print_happened-clause-cut
returns-in_err-print_happened-clause-cut g c =
    let p = c.args.plant.now in
    let q = c.meet-happened.new.plant in
    let met = c.meet-happened.ensures in
    on-err c.from_residual.result
    (cut-of-driven (definition_of p) (text_digest p) (view_of p) (view_of q) (device_of p) (device_of q) (hands_of c.args.hands.now) (hands_of c.meet-happened.new.hands) (c.args.event.now ∷ []) [] (c.meet-happened.result ∷ [])
    (driven-one (definition_of p) (text_digest p) (view_of p) (device_of p) (hands_of c.args.hands.now) c.meet-happened.result (view_of q) (device_of q) (hands_of c.meet-happened.new.hands)
    met.event c.args.event.now met.asked met.stops met.cause met.idle met.untouched met.size met.keeps met.handed_in met.hands))

pub returns-in_err-end_line-clause-cut : goal.returns-in_err-end_line-clause-cut
returns-in_err-end_line-clause-cut g c =
    let p = c.args.plant.now in
    let q = c.meet-happened.new.plant in
    let met = c.meet-happened.ensures in
    on-err c.from_residual-in_err-end_line.result
    (cut-of-driven (definition_of p) (text_digest p) (view_of p) (view_of q) (device_of p) (device_of q) (hands_of c.args.hands.now) (hands_of c.meet-happened.new.hands) (c.args.event.now ∷ []) [] (c.meet-happened.result ∷ [])
    (driven-one (definition_of p) (text_digest p) (view_of p) (device_of p) (hands_of c.args.hands.now) c.meet-happened.result (view_of q) (device_of q) (hands_of c.meet-happened.new.hands)
    met.event c.args.event.now met.asked met.stops met.cause met.idle met.untouched met.size met.keeps met.handed_in met.hands))

pub returns-clause-answered : goal.returns-clause-answered
returns-clause-answered g c =
    let p = c.args.plant.now in
    let q = c.meet-happened.new.plant in
    let met = c.meet-happened.ensures in
    record {
      driven = driven-one (definition_of p) (text_digest p) (view_of p) (device_of p) (hands_of c.args.hands.now) c.meet-happened.result (view_of q) (device_of q) (hands_of c.meet-happened.new.hands)
          met.event c.args.event.now met.asked met.stops met.cause met.idle met.untouched met.size met.keeps met.handed_in met.hands;
      printed = subst (λ plant. Appends (g.W.Write.contents c.args.output.now) (g.W.Write.contents c.end_line.new.writer) (happened_line plant c.meet-happened.result ++ codes "\n")) (c.system.ensures.plant ∙ met.plant)
          (Appends-trans _ _ _ _ _ c.in_ok-print_happened.ensures c.in_ok-end_line.ensures);
    }
