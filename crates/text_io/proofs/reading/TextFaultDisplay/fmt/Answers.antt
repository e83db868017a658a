use Rattle.text_io.proofs.reading.TextFaultDisplay.fmt.Goals as goal

pub returns-in-Memory-clause-writes : goal.returns-in-Memory-clause-writes
returns-in-Memory-clause-writes g c = rw c.in-Memory.is c.write_str.ensures.writes
