use Rattle.std.proofs.Common.{◌<◌, [], ◌∷◌, ◌++◌, codes, sym, subst, arith, get_or, length, append-nil}
use Rattle.std.specs.Io.KnownBytes.{Appends}
use Rattle.std.proofs.KnownBytes.{Appends-trans}
use Rattle.plant_model.specs.System.{plant_of}
use Rattle.run_text.specs.Jsonl.{move_object}
use Rattle.run_text.proofs.ByRows.{leads-move, no_move}
use Rattle.run_text.proofs.jsonl.print_participants.Goals as goal

pub loop-place-preserved : goal.loop-place-preserved
loop-place-preserved g c =
    let plant = plant_of c.args.system.now in
    let k = c.loop-place.place in
    let row = c.index-delivered-place.result in
    let before = c.loop-place.between.now in
    let next = g.W.Write.contents c.print_participant.new.output in
    let within : k < length c.args.moves.now = omega arith in
    let row_within : k < length c.args.delivered.now = omega arith in
    let shown : Appends (g.W.Write.contents c.loop-place.output) next (before ++ move_object plant (get_or c.args.moves.now k no_move) row ++ []) =
    subst (Appends _ next) (sym (append-nil _)) (Appends-trans _ _ _ _ _ c.in_ok-print_text.ensures c.in_ok-print_participant.ensures) in
    leads-move (λ m d. move_object plant m d ∷ []) c.args.delivered.now c.args.moves.now k row before (codes ",") _ _ next _ within row_within c.index-delivered-place.is c.loop-place.invariant shown
