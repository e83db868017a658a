use Rattle.plant_core.specs.Handed.{hands_of}
use Rattle.plant_core.specs.Plants.{definition_of, device_of, text_digest, view_of}
use Rattle.plant_service.proofs.Sessions.{empty-of, none-served, served-by, session-of}
use Rattle.plant_service.proofs.serving.serve.Goals as goal

pub returns-in_err-states-clause-driven : goal.returns-in_err-states-clause-driven
returns-in_err-states-clause-driven g c =
    none-served _ _ _ _ c.stands_for_a_front.ensures

pub returns-in_err-hands-clause-driven : goal.returns-in_err-hands-clause-driven
returns-in_err-hands-clause-driven g c =
    none-served _ _ _ _ c.stands_for_a_front.ensures

pub returns-in_err-print_standing-clause-driven : goal.returns-in_err-print_standing-clause-driven
returns-in_err-print_standing-clause-driven g c =
    none-served _ _ _ _ c.stands_for_a_front.ensures

pub returns-in_err-end_answer-clause-driven : goal.returns-in_err-end_answer-clause-driven
returns-in_err-end_answer-clause-driven g c =
    none-served _ _ _ _ c.stands_for_a_front.ensures

pub returns-in_err-failed-clause-driven : goal.returns-in_err-failed-clause-driven
returns-in_err-failed-clause-driven g c =
    served-by (empty-of c.atoms.result.now c.atoms.ensures c.system-system.ensures.plant c.in_ok-hands.ensures) c.serve_lines.ensures.driven

pub returns-in_err-close-clause-driven : goal.returns-in_err-close-clause-driven
returns-in_err-close-clause-driven g c =
    served-by (empty-of c.atoms.result.now c.atoms.ensures c.system-system.ensures.plant c.in_ok-hands.ensures) c.serve_lines.ensures.driven

pub returns-clause-driven : goal.returns-clause-driven
returns-clause-driven g c =
    served-by (empty-of c.atoms.result.now c.atoms.ensures c.system-system.ensures.plant c.in_ok-hands.ensures) c.serve_lines.ensures.driven

pub returns-clause-served : goal.returns-clause-served
returns-clause-served g c =
    let p = c.args.plant.now in
    let q = c.serve_lines.new.plant in
    session-of (definition_of p) (text_digest p) (view_of p) (view_of q) (device_of p) (device_of q) (hands_of c.in_ok-hands.hands) (hands_of c.serve_lines.new.hands)
    (empty-of c.atoms.result.now c.atoms.ensures c.system-system.ensures.plant c.in_ok-hands.ensures)
    c.args.rule_lines.now (g.R.Read.remaining c.args.input.now) c.in_ok-failed.failed (g.W.Write.contents c.args.output.now) (g.W.Write.contents c.print_standing.new.output) (g.W.Write.contents c.end_answer.new.output)
    (g.W.Write.contents c.serve_lines.new.output) (g.W.Write.contents c.close.new.output) c.in_ok-print_standing.ensures c.in_ok-end_answer.ensures c.in_ok-failed.ensures.served c.in_ok-close.ensures
