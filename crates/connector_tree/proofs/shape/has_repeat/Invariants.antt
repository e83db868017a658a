use Rattle.std.proofs.Common.{◌≡◌, drop}
use Rattle.connector_tree.specs.Faults.{has_repeat, atoms}
use Rattle.connector_tree.proofs.shape.has_repeat.Given as goal

abbrev pub invariant-loop-number : goal.invariant-loop-number
invariant-loop-number l = has_repeat (atoms (drop l.number l.ports)) ≡ has_repeat (atoms l.ports)
