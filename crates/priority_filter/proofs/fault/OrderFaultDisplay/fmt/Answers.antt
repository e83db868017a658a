use Rattle.priority_filter.proofs.fault.OrderFaultDisplay.fmt.Goals as goal

pub returns-in-Cycle-clause-writes : goal.returns-in-Cycle-clause-writes
returns-in-Cycle-clause-writes c k plain well = rw k.in-Cycle.is (k.write.ensures.writes plain well)

pub returns-in-UnknownName-clause-writes : goal.returns-in-UnknownName-clause-writes
returns-in-UnknownName-clause-writes c k plain well = rw k.in-UnknownName.is (k.write-in-UnknownName.ensures.writes plain well)
