use Rattle.priority_filter.specs.declared.fault.OrderFault.{OrderFault}
use Rattle.priority_filter.specs.declared.fault.OrderFault.TheVariants as order
use Rattle.plant_model.specs.declared.fault.SystemFault.{SystemFault}
use Rattle.plant_model.specs.declared.fault.SystemFault.TheVariants.{Order, Memory}

-- what is told of a plant where its rules have this fault
abbrev pub system_fault_of_order : OrderFault → SystemFault
system_fault_of_order (order.Cycle interaction) = Order (order.Cycle interaction)
system_fault_of_order (order.UnknownName rule) = Order (order.UnknownName rule)
system_fault_of_order order.Memory = Memory
