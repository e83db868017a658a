use Rattle.std.proofs.Common.{◌≡◌, take}
use Rattle.plant_model.specs.BoundExpressions.{copied_by, given_for}
use Rattle.plant_model.proofs.transfers.copied_for.Given as goal

-- it is what the rows so far give
abbrev pub invariant-loop-row : goal.invariant-loop-row
invariant-loop-row l = l.delivered ≡ given_for l.states (copied_by (take l.row-index l.rows)) l.mask l.atom
