use Rattle.std.proofs.Common.{take}
use Rattle.plant_model.specs.Delivery.{AreDelivered}
use Rattle.plant_model.specs.BoundExpressions.{copied_by, given_for}
use Rattle.plant_model.proofs.transfers.deliver_copies.Given as goal

-- what stands there is what the rows so far give
abbrev pub invariant-loop-row : goal.invariant-loop-row
invariant-loop-row l =
    AreDelivered l.moves (given_for l.states (copied_by (take l.row-index l.rows)) l.mask) l.delivered
