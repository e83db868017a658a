use Rattle.std.proofs.Common.{◌≡◌, map, drop}
use Rattle.petri_atom.specs.Atom.{definition_of}
use Rattle.plant_model.specs.Rules.{first_fault_in, wire_fault}
use Rattle.plant_model.specs.Wire.{wire_of}
use Rattle.plant_model.proofs.wire_rules.fault_of_wires.Given as goal

abbrev pub invariant-loop-number : goal.invariant-loop-number
invariant-loop-number l =
    let tell = wire_fault (map definition_of l.atoms) (map wire_of l.wires) in
    first_fault_in tell l.number (map wire_of (drop l.number l.wires)) ≡ first_fault_in tell 0 (map wire_of l.wires)
