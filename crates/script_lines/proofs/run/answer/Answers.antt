use Rattle.std.proofs.Common.{◌∷◌, []}
use Rattle.plant_core.specs.Handed.{hands_of}
use Rattle.plant_core.specs.Plants.{definition_of, device_of, text_digest, view_of}
use Rattle.plant_core.proofs.EventByEvent.{driven-none}
use Rattle.script_lines.proofs.Running.{cut-of-driven, on-err}
use Rattle.script_lines.proofs.run.answer.Goals as goal

-- nothing was asked
pub returns-in_err-hand_on-in-Flush-clause-cut : goal.returns-in_err-hand_on-in-Flush-clause-cut
returns-in_err-hand_on-in-Flush-clause-cut g c =
    let p = c.args.plant.now in
    let held = hands_of c.args.hands.now in
    on-err c.from_residual.result
    (cut-of-driven (definition_of p) (text_digest p) (view_of p) (view_of p) (device_of p) (device_of p) held held [] (c.args.event.now ∷ []) []
    (driven-none (definition_of p) (text_digest p) (view_of p) (device_of p) held c.stands_for_a_front.ensures))
