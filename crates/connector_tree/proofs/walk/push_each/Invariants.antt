use Rattle.std.proofs.Common.{◌≡◌, ◌++◌, map, take}
use Rattle.connector_tree.specs.MaskLists.{with_later}
use Rattle.connector_tree.proofs.walk.push_each.Given as goal

abbrev pub invariant-loop-candidate : goal.invariant-loop-candidate
invariant-loop-candidate l = l.all.items ≡ l.initial.all.items ++ map (with_later l.moved l.leads) (take l.candidate-index l.low)
