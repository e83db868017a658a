use Rattle.std.proofs.KnownBytes.{Appends-trans}
use Rattle.text_io.proofs.Leading.{printed-last}
use Rattle.image_inspection.proofs.reason.print_no_cell.Goals as goal

pub returns : goal.returns
returns g c =
    printed-last c.print_text-2.result (g.W.Write.contents c.args.output.now) (g.W.Write.contents c.print_number.new.writer) (g.W.Write.contents c.print_text-2.new.writer) _ _
    (Appends-trans _ _ _ _ _ c.in_ok-print_text.ensures c.in_ok-print_number.ensures) c.print_text-2.ensures
