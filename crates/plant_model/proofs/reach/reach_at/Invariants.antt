use Rattle.std.proofs.Common.{◌≡◌, ◌++◌, ◌&&◌, nat_lt, ℕ, drop, map}
use Rattle.priority_filter.specs.Members.{has_bit}
use Rattle.plant_model.specs.Reach.{is_at, leaves_at}
use Rattle.plant_model.specs.Wire.{wire_of}
use Rattle.plant_model.proofs.reach.reach_at.Given as goal

abbrev pub invariant-loop-number : goal.invariant-loop-number
invariant-loop-number l =
    (l.leaves.items ++ leaves_at l.place l.number (drop l.number (map wire_of l.wires)) ≡ leaves_at l.place 0 (map wire_of l.wires)) ×
    ((k : ℕ) → has_bit l.connectors k ≡ (nat_lt k l.number && is_at (map wire_of l.wires) l.place k))
