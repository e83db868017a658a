use Rattle.std.proofs.Common.{◌≡◌, ◌&&◌, nat_lt, ℕ, map}
use Rattle.priority_filter.specs.Members.{has_bit}
use Rattle.plant_model.specs.Reach.{can_read}
use Rattle.plant_model.specs.Wire.{wire_of}
use Rattle.plant_model.proofs.reach.readers_of.Given as goal

abbrev pub invariant-loop-number : goal.invariant-loop-number
invariant-loop-number l =
    (k : ℕ) → has_bit l.connectors k ≡ (nat_lt k l.number && can_read (map wire_of l.wires) l.atom k)
