use Rattle.std.proofs.Common.{◌≡◌, drop}
use Rattle.connector_tree.specs.Faults.{has_repeat}
use Rattle.connector_lines.proofs.shape.has_repeat.Given as goal

abbrev pub invariant-loop-i : goal.invariant-loop-i
invariant-loop-i l = has_repeat (drop l.i l.atoms) ≡ has_repeat l.atoms
