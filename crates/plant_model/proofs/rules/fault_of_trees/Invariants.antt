use Rattle.std.proofs.Common.{◌≡◌, map, drop}
use Rattle.plant_model.specs.Rules.{first_fault_in, tree_fault}
use Rattle.plant_model.specs.Wire.{wire_of}
use Rattle.plant_model.proofs.rules.fault_of_trees.Given as goal

abbrev pub invariant-loop-number : goal.invariant-loop-number
invariant-loop-number l =
    first_fault_in tree_fault l.number (map wire_of (drop l.number l.wires)) ≡ first_fault_in tree_fault 0 (map wire_of l.wires)
