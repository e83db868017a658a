use Rattle.plant_model.proofs.fault.SystemFaultDisplay.fmt.Goals as goal

pub returns-in-BadAtom-clause-writes : goal.returns-in-BadAtom-clause-writes
returns-in-BadAtom-clause-writes c k plain well = rw k.in-BadAtom.is (k.write.ensures.writes plain well)

pub returns-in-Order-clause-writes : goal.returns-in-Order-clause-writes
returns-in-Order-clause-writes c k plain well = rw k.in-Order.is (k.write-in-Order.ensures.writes plain well)
