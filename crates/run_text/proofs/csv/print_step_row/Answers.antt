use Rattle.std.proofs.Common.{◌∙◌, ◌++◌, ap, subst, codes, decimal, map}
use Rattle.std.specs.Prelude.{OnOk}
use Rattle.std.specs.Io.KnownBytes.{Appends}
use Rattle.std.proofs.KnownBytes.{Appends-trans}
use Rattle.plant_model.specs.Chosen.{choice_of}
use Rattle.plant_model.specs.System.{plant_of}
use Rattle.plant_model.specs.Plant.{wire_name}
use Rattle.text_io.proofs.Leading.{printed-last}
use Rattle.run_text.specs.Line.{participant}
use Rattle.run_text.specs.ByRows.{words_by_rows}
use Rattle.run_text.specs.Word.{separated_by}
use Rattle.run_text.proofs.csv.print_step_row.Goals as goal

pub returns : goal.returns
returns g c =
    let plant = plant_of c.args.system.now in
    let choice = choice_of c.args.firing.now.choice.now in
    let start = g.W.Write.contents c.args.output.now in
    let named : Appends (g.W.Write.contents c.print_text-2.new.writer) (g.W.Write.contents c.print_text-3.new.writer) (wire_name plant choice.connector) =
    subst (Appends _ _) c.wire_name.ensures c.in_ok-print_text-3.ensures in
    let shown : Appends (g.W.Write.contents c.print_text-4.new.writer) (g.W.Write.contents c.print_moves.new.output) (separated_by (codes " ") (map (participant plant.atoms) choice.moves)) =
    subst (Appends _ _)
    (ap (λ atoms. separated_by (codes " ") (map (participant atoms) c.as_slice-moves.result.now)) c.atoms.ensures ∙
    ap (λ moves. separated_by (codes " ") (map (participant plant.atoms) moves)) c.as_slice-moves.ensures.moves)
    c.in_ok-print_moves.ensures in
    let begun : Appends start (g.W.Write.contents c.print_text-5.new.writer)
    (codes "step," ++ decimal c.args.firing.now.number ++ codes "," ++ wire_name plant choice.connector ++ codes "," ++ separated_by (codes " ") (map (participant plant.atoms) choice.moves) ++ codes ",") =
    Appends-trans _ _ _ _ _ (Appends-trans _ _ _ _ _ (Appends-trans _ _ _ _ _ (Appends-trans _ _ _ _ _ (Appends-trans _ _ _ _ _ (Appends-trans _ _ _ _ _ c.in_ok-print_text.ensures c.in_ok-print_number.ensures) c.in_ok-print_text-2.ensures) named) c.in_ok-print_text-4.ensures) shown) c.in_ok-print_text-5.ensures in
    printed-last c.print_deliveries.result _ _ _ _ _ begun
    (subst (λ moves. OnOk c.print_deliveries.result (Appends (g.W.Write.contents c.print_text-5.new.writer) (g.W.Write.contents c.print_deliveries.new.output) (separated_by (codes " ") (words_by_rows plant c.args.firing.now.delivered.now moves))))
    c.as_slice-moves.ensures.moves c.print_deliveries.ensures)
