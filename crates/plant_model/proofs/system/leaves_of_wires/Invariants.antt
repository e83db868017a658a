use Rattle.std.proofs.Common.{◌≡◌, map, take}
use Rattle.connector_tree.specs.Tree.{leaves}
use Rattle.plant_model.specs.Wire.{wire_of}
use Rattle.plant_model.proofs.system.leaves_of_wires.Given as goal

abbrev pub invariant-loop-wire : goal.invariant-loop-wire
invariant-loop-wire l =
    map (λ list. list.items) l.lists.items ≡ map (λ w. leaves (wire_of w).connector) (take l.wire-index l.wires)
