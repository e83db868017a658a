use Rattle.std.proofs.Common.{◌≡◌, map, take}
use Rattle.plant_model.specs.BoundExpressions.{copied_by, delivery_of}
use Rattle.plant_model.proofs.copy_row.copy_rows.Given as goal

-- the rows are those of the transfers so far
abbrev pub invariant-loop-delivery : goal.invariant-loop-delivery
invariant-loop-delivery l = copied_by l.rows.items ≡ map delivery_of (take l.delivery-index l.deliveries)
