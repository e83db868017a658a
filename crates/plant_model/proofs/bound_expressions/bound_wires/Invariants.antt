use Rattle.std.proofs.Common.{◌≡◌, map, take}
use Rattle.petri_atom.specs.Atom.{definition_of}
use Rattle.plant_model.specs.BoundExpressions.{bound_of, bound_by}
use Rattle.plant_model.specs.Wire.{wire_of}
use Rattle.plant_model.proofs.bound_expressions.bound_wires.Given as goal

abbrev pub invariant-loop-wire : goal.invariant-loop-wire
invariant-loop-wire l =
    map bound_of l.all.items ≡ map (bound_by (map definition_of l.atoms)) (map wire_of (take l.wire-index l.wires))
