use Rattle.plant_core.specs.Handed.{hands_of}
use Rattle.plant_core.specs.Plants.{definition_of, device_of, text_digest, view_of}
use Rattle.script_lines.proofs.Running.{on-err}
use Rattle.script_lines.proofs.Stopping.{cut-of-asked}
use Rattle.script_lines.proofs.strict.run_strictly.Goals as goal

pub returns-in_err-print_standing-clause-cut : goal.returns-in_err-print_standing-clause-cut
returns-in_err-print_standing-clause-cut g c =
    let p = c.args.plant.now in
    let q = c.ask_in_turn.new.plant in
    on-err c.from_residual-in_err-print_standing.result
    (cut-of-asked (definition_of p) (text_digest p) (view_of p) (view_of q) (device_of p) (device_of q) (hands_of c.args.hands.now) (hands_of c.ask_in_turn.new.hands) c.args.events.now c.in_ok-stop.stop
    (g.W.Write.contents c.args.output.now) (g.W.Write.contents c.ask_in_turn.new.output) c.in_ok-stop.ensures.asked)

pub returns-in_err-hand_on-clause-cut : goal.returns-in_err-hand_on-clause-cut
returns-in_err-hand_on-clause-cut g c =
    let p = c.args.plant.now in
    let q = c.ask_in_turn.new.plant in
    on-err c.from_residual-in_err-hand_on.result
    (cut-of-asked (definition_of p) (text_digest p) (view_of p) (view_of q) (device_of p) (device_of q) (hands_of c.args.hands.now) (hands_of c.ask_in_turn.new.hands) c.args.events.now c.in_ok-stop.stop
    (g.W.Write.contents c.args.output.now) (g.W.Write.contents c.ask_in_turn.new.output) c.in_ok-stop.ensures.asked)
