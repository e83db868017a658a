use Rattle.std.proofs.KnownBytes.{Appends-trans}
use Rattle.text_io.proofs.Leading.{printed-last}
use Rattle.plant_drawing.proofs.node.print_part.Goals as goal

pub returns : goal.returns
returns g c =
    printed-last c.print_number-2.result (g.W.Write.contents c.args.output.now) (g.W.Write.contents c.print_text-3.new.writer) (g.W.Write.contents c.print_number-2.new.writer) _ _
    (Appends-trans _ _ _ _ _ (Appends-trans _ _ _ _ _ (Appends-trans _ _ _ _ _ (c.in_ok-print_text.ensures) c.in_ok-print_text-2.ensures) c.in_ok-print_number.ensures) c.in_ok-print_text-3.ensures) c.print_number-2.ensures
