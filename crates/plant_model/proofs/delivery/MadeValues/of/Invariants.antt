use Rattle.std.proofs.Common.{◌≡◌, map, take}
use Rattle.plant_model.proofs.delivery.MadeValues.of.Given as goal

-- they are the leaves of the transfers so far
abbrev pub invariant-loop-delivery : goal.invariant-loop-delivery
invariant-loop-delivery l = l.leaves.items ≡ map (λ d. d.leaves) (take l.delivery-index l.fn.all.items)
