use Rattle.petri_atom.proofs.fault.AtomFaultDisplay.fmt.Goals as goal

pub returns-in-Limit-clause-writes : goal.returns-in-Limit-clause-writes
returns-in-Limit-clause-writes g c = rw c.in-Limit.is c.write_str.ensures.writes
