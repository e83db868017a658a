use Rattle.text_io.proofs.printing.end_line.Goals as goal

pub returns : goal.returns
returns g c = c.print_text.ensures
