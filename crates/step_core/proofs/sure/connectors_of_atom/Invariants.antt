use Rattle.std.proofs.Common.{◌≡◌, ◌<◌, ◌≤◌, ℕ, false, length, map}
use Rattle.priority_filter.specs.Members.{has_bit}
use Rattle.plant_model.specs.Reach.{row_of_port}
use Rattle.plant_model.specs.Reach.{is_at}
use Rattle.plant_model.specs.Wire.{wire_of}
use Rattle.step_core.proofs.sure.connectors_of_atom.Given as goal

-- a connector that stands on one of the ports so far has its bit, and one past the last has none
abbrev pub invariant-loop-port : goal.invariant-loop-port
invariant-loop-port l = record {
  told : (k : ℕ) → has_bit l.connectors k ≡ false → (port : ℕ) → port < l.port → is_at (map wire_of l.system.wires.items) (row_of_port l.atom port) k ≡ false;
  within : (k : ℕ) → length (map wire_of l.system.wires.items) ≤ k → has_bit l.connectors k ≡ false;
}
