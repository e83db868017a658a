use Rattle.std.proofs.KnownBytes.{Appends-trans}
use Rattle.text_io.proofs.Leading.{printed-last}
use Rattle.plant_warnings.proofs.report.print_warning.Goals as goal

pub returns : goal.returns
returns g c =
    printed-last c.end_line.result (g.W.Write.contents c.args.output.now) (g.W.Write.contents c.print_message.new.output) (g.W.Write.contents c.end_line.new.writer) _ _
    (Appends-trans _ _ _ _ _ (Appends-trans _ _ _ _ _ c.in_ok-print_position.ensures c.in_ok-print_text.ensures) c.in_ok-print_message.ensures) c.end_line.ensures
