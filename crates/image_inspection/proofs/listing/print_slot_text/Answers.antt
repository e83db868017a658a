use Rattle.std.proofs.KnownBytes.{Appends-trans}
use Rattle.text_io.proofs.Leading.{printed-last}
use Rattle.image_inspection.proofs.listing.print_slot_text.Goals as goal

pub returns : goal.returns
returns g c =
    printed-last c.end_line.result (g.W.Write.contents c.args.output.now) (g.W.Write.contents c.print_local.new.output) (g.W.Write.contents c.end_line.new.writer) _ _
    (Appends-trans _ _ _ _ _ (Appends-trans _ _ _ _ _ (Appends-trans _ _ _ _ _ (Appends-trans _ _ _ _ _ c.in_ok-print_slot.ensures c.in_ok-print_text.ensures) c.in_ok-print_saved.ensures) c.in_ok-print_text-2.ensures)
    c.in_ok-print_local.ensures) c.end_line.ensures
