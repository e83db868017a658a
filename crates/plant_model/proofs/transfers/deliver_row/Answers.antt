use Rattle.std.proofs.Common.{◌==◌, ◌<◌, ◌∙◌, ap, arith, length, refl}
use Rattle.std.specs.Prelude.{find}
use Rattle.std.proofs.lemmas.List.{get_or_default, take_all}
use Rattle.std.proofs.lemmas.Option.{slice_get_within}
use Rattle.plant_model.specs.BoundExpressions.{given_copies}
use Rattle.plant_model.proofs.ValueRows.{changed-here, changed-none}
use Rattle.plant_model.proofs.transfers.deliver_row.Goals as goal

pub returns-in-Some : goal.returns-in-Some
returns-in-Some c =
    let row = c.args.row.now in
    let delivered = c.args.delivered.now in
    let n = c.in-Some.place in
    let found = c.in-Some.ensures.found in
    let within : n < length delivered = omega (arith, slice_get_within c.args.moves.now n found.its found.here, c.requires.few, c.told-delivered) in
    changed-here c.args.moves.now row.atom (given_copies c.args.states.now 0 row.cells) delivered n found.its found.here found.same found.first within c.give.new.row
    (λ values is. c.give.ensures ∙ ap (given_copies c.args.states.now 0 row.cells) (get_or_default delivered n _ c.give.new.row within ∙ is))

pub returns-in_default : goal.returns-in_default
returns-in_default c =
    let moves = c.args.moves.now in
    changed-none moves c.args.row.now.atom (given_copies c.args.states.now 0 c.args.row.now.cells) c.args.delivered.now (length moves) (omega arith)
    (ap (find (λ m. m.atom == c.args.row.now.atom)) (take_all (length moves) moves (omega arith)) ∙ c.in_default.ensures.none refl)
