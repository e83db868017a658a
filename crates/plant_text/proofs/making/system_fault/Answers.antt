use Rattle.std.proofs.Common.{◌≡◌, refl}
use Rattle.priority_filter.specs.declared.fault.OrderFault.{OrderFault}
use Rattle.plant_model.specs.declared.fault.SystemFault.{SystemFault}
use Rattle.plant_model.specs.declared.fault.SystemFault.TheVariants as system
use Rattle.plant_text.specs.Fault.{of_system}
use Rattle.plant_text.specs.declared.fault.Fault.TheVariants.{Limit}
use Rattle.plant_text.proofs.making.system_fault.Goals as goal

-- the faults but those of the order and of memory
found_as_limit : (fault : SystemFault) → ((order : OrderFault) → fault ≡ system.Order order → ⊥) → (fault ≡ system.Memory → ⊥) → Limit ≡ of_system fault
found_as_limit system.Limit no_order some_memory = refl
found_as_limit (system.BadAtom n) no_order some_memory = refl
found_as_limit (system.BadConnector n f) no_order some_memory = refl
found_as_limit (system.BadWire n f) no_order some_memory = refl
found_as_limit (system.Order f) no_order some_memory = absurd (no_order f refl)
found_as_limit system.Memory no_order some_memory = absurd (some_memory refl)

pub returns-in_default : goal.returns-in_default
returns-in_default c = found_as_limit c.args.fault c.in_default.not-Order c.in_default.not-Memory
