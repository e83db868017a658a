use Rattle.text_io.proofs.printing.WriteFaultDisplay.fmt.Goals as goal

pub returns-clause-writes : goal.returns-clause-writes
returns-clause-writes g c = c.write_str.ensures.writes
