use Rattle.std.proofs.Common.{◌≡◌, ◌++◌, drop}
use Rattle.connector_tree.specs.Masks.{chosen}
use Rattle.plant_model.proofs.interactions.ports_of_mask.Given as goal

abbrev pub invariant-loop-leaf : goal.invariant-loop-leaf
invariant-loop-leaf l = l.ports.items ++ chosen l.mask l.leaf (drop l.leaf l.leaves) ≡ chosen l.mask 0 l.leaves
