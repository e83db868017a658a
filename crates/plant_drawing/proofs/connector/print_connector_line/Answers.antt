use Rattle.std.proofs.KnownBytes.{Appends-trans}
use Rattle.text_io.proofs.Leading.{printed-last}
use Rattle.plant_drawing.proofs.connector.print_connector_line.Goals as goal

pub returns : goal.returns
returns g c =
    printed-last c.print_text-2.result (g.W.Write.contents c.args.output.now) (g.W.Write.contents c.print_label.new.output) (g.W.Write.contents c.print_text-2.new.writer) _ _
    (Appends-trans _ _ _ _ _ (Appends-trans _ _ _ _ _ (Appends-trans _ _ _ _ _ (c.in_ok-print_text.ensures) c.in_ok-print_connector.ensures) c.in_ok-print_shape.ensures) c.in_ok-print_label.ensures) c.print_text-2.ensures
