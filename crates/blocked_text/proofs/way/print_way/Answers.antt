use Rattle.std.proofs.KnownBytes.{Appends-trans}
use Rattle.text_io.proofs.Leading.{printed-last}
use Rattle.blocked_text.proofs.way.print_way.Goals as goal

pub returns : goal.returns
returns g c =
    printed-last c.print_by.result (g.W.Write.contents c.args.output.now) (g.W.Write.contents c.print_interaction.new.output) (g.W.Write.contents c.print_by.new.output) _ _
    (Appends-trans _ _ _ _ _ (c.in_ok-print_text.ensures) c.in_ok-print_interaction.ensures) c.print_by.ensures
