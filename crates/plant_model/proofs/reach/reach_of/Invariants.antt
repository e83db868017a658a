use Rattle.std.proofs.Common.{◌≡◌, ◌<◌, ℕ, map, length}
use Rattle.std.specs.Prelude.{Some, slice_get, slice_index_or}
use Rattle.priority_filter.specs.Members.{has_bit}
use Rattle.plant_model.specs.Reach.{IsPortReach, can_read}
use Rattle.plant_model.specs.Wire.{wire_of}
use Rattle.plant_model.specs.declared.reach.PortReach.{PortReach}
use Rattle.plant_model.proofs.reach.reach_of.Given as goal

abbrev pub invariant-loop-place : goal.invariant-loop-place
invariant-loop-place l =
    (length l.at_ports.items ≡ l.place) ×
    ((k : ℕ) (p : PortReach) → slice_get l.at_ports.items k ≡ Some p → IsPortReach (map wire_of l.wires) k p)

abbrev pub invariant-loop-atom : goal.invariant-loop-atom
invariant-loop-atom l =
    (length l.readers.items ≡ l.atom) ×
    ((a k : ℕ) → a < l.atom → has_bit (slice_index_or l.readers.items a 0) k ≡ can_read (map wire_of l.wires) a k)
