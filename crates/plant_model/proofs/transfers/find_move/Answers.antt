use Rattle.std.proofs.Common.{◌==◌, ◌∙◌, ap, cond, take, get_or, [], ◌∷◌}
use Rattle.std.specs.Prelude.{Some, None, find}
use Rattle.std.specs.Option.{option_or}
use Rattle.std.proofs.lemmas.Bool.{ne_eqb}
use Rattle.std.proofs.lemmas.List.{take_more}
use Rattle.std.proofs.lemmas.List.Folds.{find-append}
use Rattle.plant_model.proofs.Stepping.{no_move}
use Rattle.plant_model.proofs.transfers.find_move.Goals as goal

pub loop-place-preserved : goal.loop-place-preserved
loop-place-preserved c =
    let moves = c.args.moves.now in
    let n = c.loop-place.place in
    let its = get_or moves n no_move in
    ap (find (λ m. m.atom == c.args.atom)) (take_more moves n no_move c.loop-place-test.true) ∙
    find-append (λ m. m.atom == c.args.atom) (take n moves) (its ∷ []) ∙
    ap (λ o. option_or o (cond (its.atom == c.args.atom) (Some its) None)) c.loop-place.invariant ∙
    ap (λ b. cond b (Some its) None) (ne_eqb its.atom c.args.atom c.if-moves-place.false)
