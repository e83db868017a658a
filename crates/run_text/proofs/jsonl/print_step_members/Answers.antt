use Rattle.std.proofs.Common.{◌++◌, ap, subst, codes, decimal}
use Rattle.std.specs.Io.KnownBytes.{Appends}
use Rattle.std.proofs.KnownBytes.{Appends-trans}
use Rattle.plant_model.specs.Chosen.{choice_of}
use Rattle.plant_model.specs.System.{plant_of}
use Rattle.plant_model.specs.Plant.{wire_name}
use Rattle.text_io.proofs.Leading.{printed-last}
use Rattle.run_text.specs.ByRows.{objects_by_rows}
use Rattle.run_text.specs.Word.{quoted, separated_by}
use Rattle.run_text.proofs.jsonl.print_step_members.Goals as goal

pub returns : goal.returns
returns g c =
    let plant = plant_of c.args.system.now in
    let choice = choice_of c.args.firing.now.choice.now in
    let start = g.W.Write.contents c.args.output.now in
    let now = g.W.Write.contents c.print_participants.new.output in
    let named : Appends (g.W.Write.contents c.print_text-2.new.writer) (g.W.Write.contents c.print_quoted.new.output) (quoted (wire_name plant choice.connector)) =
    subst (Appends _ _) (ap quoted c.wire_name.ensures) c.in_ok-print_quoted.ensures in
    let listed : Appends (g.W.Write.contents c.print_text-3.new.writer) now (separated_by (codes ",") (objects_by_rows plant c.args.firing.now.delivered.now choice.moves)) =
    subst (Appends _ _) (ap (λ moves. separated_by (codes ",") (objects_by_rows plant c.args.firing.now.delivered.now moves)) c.as_slice.ensures.moves) c.in_ok-print_participants.ensures in
    let begun : Appends start now
    (codes "{\"kind\":\"step\",\"number\":" ++ decimal c.args.firing.now.number ++ codes ",\"connector\":" ++ quoted (wire_name plant choice.connector) ++ codes ",\"participants\":[" ++ separated_by (codes ",") (objects_by_rows plant c.args.firing.now.delivered.now choice.moves)) =
    Appends-trans _ _ _ _ _ (Appends-trans _ _ _ _ _ (Appends-trans _ _ _ _ _ (Appends-trans _ _ _ _ _ (Appends-trans _ _ _ _ _ c.in_ok-print_text.ensures c.in_ok-print_number.ensures) c.in_ok-print_text-2.ensures) named) c.in_ok-print_text-3.ensures) listed in
    printed-last c.print_text-4.result _ _ _ _ _ begun c.print_text-4.ensures
