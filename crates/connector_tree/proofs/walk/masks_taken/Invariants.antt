use Rattle.std.proofs.Common.{◌≡◌, take}
use Rattle.connector_tree.specs.MaskLists.{masks_taken}
use Rattle.connector_tree.proofs.walk.masks_taken.Given as goal

abbrev pub invariant-loop-candidate : goal.invariant-loop-candidate
invariant-loop-candidate l = l.masks.items ≡ masks_taken l.triggers (take l.candidate-index l.candidates)
