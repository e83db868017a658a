use Rattle.priority_filter.proofs.DecidedOrder.{decides_unknown_fault, decides_cycle_fault, decides_no_fault, memory_is_no_fault}
use Rattle.priority_filter.proofs.laws.fault_is_computed.Goals as goal

pub returns : goal.returns
returns c = record { unknown = decides_unknown_fault; cycle = decides_cycle_fault; none = decides_no_fault; memory = memory_is_no_fault }
