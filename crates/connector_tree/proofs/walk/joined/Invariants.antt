use Rattle.std.proofs.Common.{◌≡◌, take}
use Rattle.connector_tree.specs.MaskLists.{joined}
use Rattle.connector_tree.proofs.walk.joined.Given as goal

abbrev pub invariant-loop-later : goal.invariant-loop-later
invariant-loop-later l = l.all.items ≡ joined l.low l.at (take l.later-index l.high)
