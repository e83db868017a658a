use Rattle.std.proofs.Common.{◌≡◌, map, take}
use Rattle.std.specs.Prelude.{filter}
use Rattle.petri_atom.specs.Atom.{definition_of}
use Rattle.plant_model.specs.BoundExpressions.{delivery_of, delivery_by, has_target}
use Rattle.plant_model.specs.Wire.{transfer_of}
use Rattle.plant_model.proofs.bound_expressions.deliveries_of.Given as goal

abbrev pub invariant-loop-transfer : goal.invariant-loop-transfer
invariant-loop-transfer l =
    map delivery_of l.all.items ≡ filter has_target (map (delivery_by (map definition_of l.atoms) l.ports) (map transfer_of (take l.transfer-index l.written)))
