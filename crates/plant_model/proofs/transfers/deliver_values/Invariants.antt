use Rattle.std.proofs.Common.{◌<◌, length, map, take}
use Rattle.plant_model.specs.Delivery.{AreDelivered}
use Rattle.plant_model.specs.BoundExpressions.{delivery_of, given_for}
use Rattle.plant_model.proofs.transfers.deliver_values.Given as goal

-- what stands there is what the deliveries so far give
abbrev pub invariant-loop-number : goal.invariant-loop-number
invariant-loop-number l =
    AreDelivered l.moves (given_for l.states (map delivery_of (take l.number l.values.all.items)) l.mask) l.delivered ×
    (l.place < length l.moves)
