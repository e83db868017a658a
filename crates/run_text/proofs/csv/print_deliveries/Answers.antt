use Rattle.std.proofs.Common.{◌+◌, ◌<◌, [], codes, sym, subst, arith, drop, get_or, length}
use Rattle.plant_model.specs.System.{plant_of}
use Rattle.text_io.specs.Numbered.{numbered}
use Rattle.text_io.proofs.Leading.{Leads}
use Rattle.run_text.specs.Csv.{participant_words}
use Rattle.run_text.specs.ByRows.{words_by_rows}
use Rattle.run_text.specs.Word.{separated_after, separated_by}
use Rattle.run_text.proofs.ByRows.{leads-move}
use Rattle.run_text.proofs.csv.print_deliveries.Goals as goal

pub loop-place-preserved : goal.loop-place-preserved
loop-place-preserved g c =
    let plant = plant_of c.args.system.now in
    let rows = c.args.delivered.now in
    let moves = c.args.moves.now in
    let k = c.loop-place.place in
    let next = g.W.Write.contents c.print_delivery.new.output in
    let within : k < length moves = omega arith in
    let row_within : k < length rows = omega arith in
    subst (λ before. Leads (g.W.Write.contents c.args.output.now) next
    (separated_after before (codes " ") (numbered (λ place m. participant_words plant m (get_or rows place [])) (k + 1) (drop (k + 1) moves)))
    (separated_by (codes " ") (words_by_rows plant rows moves)))
    (sym c.in_ok-before.ensures.next)
    (leads-move (participant_words plant) rows moves k c.index-delivered-place.result c.loop-place.before.now (codes " ") _ _ next _ within row_within c.index-delivered-place.is
    c.loop-place.invariant c.in_ok-before.ensures.printed)
