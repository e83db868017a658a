use Rattle.std.proofs.Common.{◌≡◌, map}
use Rattle.petri_atom.specs.Expression.{tree_of}
use Rattle.petri_atom.specs.Local.{set_below}
use Rattle.petri_atom.specs.Groups.{has_bare_guard}
use Rattle.petri_atom.specs.Transition.{transition_of}
use Rattle.petri_atom.proofs.transition_code.alike_among.Given as goal

abbrev pub invariant-loop-number : goal.invariant-loop-number
invariant-loop-number l = l.alike ≡ set_below l.number (has_bare_guard (tree_of l.guard) (map transition_of l.transitions))
