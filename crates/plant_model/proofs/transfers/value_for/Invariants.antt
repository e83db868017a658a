use Rattle.std.proofs.Common.{◌≡◌, map, drop}
use Rattle.plant_model.specs.BoundExpressions.{delivery_of, value_for}
use Rattle.plant_model.proofs.transfers.value_for.Given as goal

abbrev pub invariant-loop-delivery : goal.invariant-loop-delivery
invariant-loop-delivery l =
    value_for l.states (map delivery_of (drop l.delivery-index l.deliveries)) l.mask l.atom l.export ≡
    value_for l.states (map delivery_of l.deliveries) l.mask l.atom l.export
