use Rattle.std.proofs.Common.{◌≡◌, ◌++◌, drop, take}
use Rattle.plant_model.specs.Reach.{leaves_from, has_row}
use Rattle.plant_model.proofs.reach.push_leaves.Given as goal

abbrev pub invariant-loop-leaf : goal.invariant-loop-leaf
invariant-loop-leaf l =
    (l.into.items ++ leaves_from l.place l.connector l.leaf (drop l.leaf l.leaves) ≡ l.fn.into.items ++ leaves_from l.place l.connector 0 l.leaves) ×
    (l.some ≡ has_row (take l.leaf l.leaves) l.place)
