use Rattle.std.proofs.Common.{refl}
use Rattle.std.proofs.lemmas.Result.{IfOk-from_err}
use Rattle.plant_core.specs.Handed.{hands_of}
use Rattle.plant_core.specs.Plants.{definition_of, device_of, text_digest, view_of}
use Rattle.plant_service.proofs.Driving.{answered-event, answered-query, no-events, none-driven, on-err, one-asked}
use Rattle.plant_service.proofs.answering.answer_command.Goals as goal

pub returns-in_ok-answer-in-Asks-clause-answered : goal.returns-in_ok-answer-in-Asks-clause-answered
returns-in_ok-answer-in-Asks-clause-answered g c =
    let p = c.args.plant.now in
    let q = c.answer.new.plant in
    let hands = hands_of c.args.hands.now in
    let held = hands_of c.answer.new.hands in
    let old = g.W.Write.contents c.args.output.now in
    let new = g.W.Write.contents c.answer.new.output in
    answered-event (definition_of p) (text_digest p) c.args.rule_lines.now (view_of p) (view_of q) (device_of p) (device_of q) hands held c.args.line.now c.args.command.now c.has_failed.result old new c.in-Asks.event c.in-Asks.is
    (one-asked (definition_of p) (text_digest p) (view_of p) (view_of q) (device_of p) (device_of q) hands held c.in-Asks.event c.in_ok-answer-in-Asks.field-0 c.has_failed.result old new c.in_ok-answer-in-Asks.ensures.answered c.has_failed.ensures)

pub returns-in_err-print_query-in_default : goal.returns-in_err-print_query-in_default
returns-in_err-print_query-in_default g c =
    let p = c.args.plant.now in
    record {
      answered = IfOk-from_err c.from_residual-in_err-print_query-in_default.result _ c.from_residual-in_err-print_query-in_default.ensures.0;
      cut = on-err c.from_residual-in_err-print_query-in_default.result (none-driven (definition_of p) (text_digest p) (view_of p) (device_of p) (hands_of c.args.hands.now) c.stands_for_a_front.ensures);
      as_many = c.requires.hands;
      states = c.in_err-print_query-in_default.ensures.states;
      plant = refl;
      digest = refl;
    }

pub returns-in_ok-print_query-in_default : goal.returns-in_ok-print_query-in_default
returns-in_ok-print_query-in_default g c =
    let p = c.args.plant.now in
    record {
      answered = answered-query (definition_of p) (text_digest p) c.args.rule_lines.now (view_of p) (device_of p) (hands_of c.args.hands.now) c.args.line.now c.args.command.now (g.W.Write.contents c.args.output.now) (g.W.Write.contents c.print_query.new.output)
          c.stands_for_a_front.ensures (no-events (definition_of p) (view_of p) c.args.command.now c.in_default.not-Asks c.in_default.not-Save) c.in_ok-print_query-in_default.ensures.printed;
      cut = tt;
      as_many = c.requires.hands;
      states = c.in_ok-print_query-in_default.ensures.states;
      plant = refl;
      digest = refl;
    }
