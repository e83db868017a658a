-- The connectors from this one on decide.
use Rattle.std.proofs.Common.{◌≡◌, drop, map}
use Rattle.std.specs.List.{list_any}
use Rattle.plant_model.specs.Wire.{wire_of}
use Rattle.plant_warnings.specs.Ports.{has_leaf}
use Rattle.plant_warnings.proofs.ports.is_in_some.Given as goal

abbrev pub invariant-loop-wire : goal.invariant-loop-wire
invariant-loop-wire l =
    list_any (has_leaf l.atom l.port) (map wire_of (drop l.wire-index l.wires)) ≡ list_any (has_leaf l.atom l.port) (map wire_of l.wires)
