-- The connectors from this one on decide.
use Rattle.std.proofs.Common.{◌≡◌, drop, map}
use Rattle.std.specs.List.{list_any}
use Rattle.petri_atom.specs.Atom.{definition_of}
use Rattle.plant_model.specs.Wire.{wire_of}
use Rattle.plant_warnings.specs.Reads.{is_read_in}
use Rattle.plant_warnings.proofs.reads.is_read_in_some.Given as goal

abbrev pub invariant-loop-wire : goal.invariant-loop-wire
invariant-loop-wire l =
    let test = is_read_in l.number (definition_of l.atom) l.variable in
    list_any test (map wire_of (drop l.wire-index l.wires)) ≡ list_any test (map wire_of l.wires)
