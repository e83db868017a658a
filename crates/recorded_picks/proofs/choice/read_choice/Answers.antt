use Rattle.std.proofs.Common.{◌≡◌, sym}
use Rattle.std.specs.Prelude.{Err, Ok}
use Rattle.plant_model.specs.System.{plant_of}
use Rattle.recorded_picks.specs.Choices.{choice_in, connector_read, moves_read}
use Rattle.recorded_picks.specs.Moves.{moves_in}
use Rattle.recorded_picks.proofs.Reading.{misread-left, no-moves}
use Rattle.recorded_picks.proofs.choice.read_choice.Goals as goal

pub returns-in_err-moves-clause-misread : goal.returns-in_err-moves-clause-misread
returns-in_err-moves-clause-misread c =
    let plant = plant_of c.args.names.now.system.now in
    let name = c.args.connector.now in
    let words = c.args.words.now in
    let m = c.in_err-moves.field-0.0 in
    let k = c.in_ok-connector.connector in
    let named : connector_read plant name ≡ Ok k = sym c.in_ok-connector.ensures in
    let told : moves_read (moves_in plant words) ≡ Err m = sym c.in_err-moves.ensures in
    misread-left (λ misread. choice_in plant name words ≡ Err misread) c.from_residual-in_err-moves.result m c.from_residual-in_err-moves.ensures.1
    (no-moves plant name words k named c.args.names.now.valid m told)
