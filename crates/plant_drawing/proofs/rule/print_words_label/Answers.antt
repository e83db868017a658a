use Rattle.std.proofs.KnownBytes.{Appends-trans}
use Rattle.text_io.proofs.Leading.{printed-last}
use Rattle.plant_drawing.proofs.rule.print_words_label.Goals as goal

pub returns : goal.returns
returns g c =
    printed-last c.print_text-2.result (g.W.Write.contents c.args.output.now) (g.W.Write.contents c.print_rule_words.new.output) (g.W.Write.contents c.print_text-2.new.writer) _ _
    (Appends-trans _ _ _ _ _ (c.in_ok-print_text.ensures) c.in_ok-print_rule_words.ensures) c.print_text-2.ensures
