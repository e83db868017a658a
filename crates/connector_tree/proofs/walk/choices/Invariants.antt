use Rattle.std.proofs.Common.{◌≡◌, ◌++◌, take}
use Rattle.connector_tree.specs.MaskLists.{tagged}
use Rattle.connector_tree.proofs.walk.choices.Given as goal

abbrev pub invariant-loop-mask : goal.invariant-loop-mask
invariant-loop-mask l = l.all.items ≡ l.initial.all.items ++ tagged (λ _. l.trigger) (take l.mask-index l.own)
