use Rattle.plant_text.proofs.fault.FaultDisplay.fmt.Goals as goal

pub returns-in-NoAtom-clause-writes : goal.returns-in-NoAtom-clause-writes
returns-in-NoAtom-clause-writes g c = rw c.in-NoAtom.is c.write_str-in-NoAtom.ensures.writes
