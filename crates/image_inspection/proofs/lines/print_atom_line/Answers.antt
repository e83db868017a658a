use Rattle.std.specs.Prelude.{option_copied}
use Rattle.text_io.proofs.Leading.{printed-last}
use Rattle.image_inspection.specs.Lines.{atom_words, holding_words}
use Rattle.image_inspection.proofs.lines.print_atom_line.Goals as goal

pub returns : goal.returns
returns g c =
    printed-last c.print_holding.result (g.W.Write.contents c.args.output.now) (g.W.Write.contents c.print_atom_words.new.output) (g.W.Write.contents c.print_holding.new.output)
    (atom_words (option_copied c.args.names) c.args.cells.now c.args.atom) (holding_words c.args.saved.now c.args.marks.now c.args.atom)
    c.in_ok-print_atom_words.ensures c.print_holding.ensures
