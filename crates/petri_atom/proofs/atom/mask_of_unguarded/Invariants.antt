use Rattle.std.proofs.Common.{◌≡◌, map}
use Rattle.petri_atom.specs.Local.{set_below}
use Rattle.petri_atom.specs.Groups.{is_unguarded}
use Rattle.petri_atom.specs.Transition.{transition_of}
use Rattle.petri_atom.proofs.atom.mask_of_unguarded.Given as goal

abbrev pub invariant-loop-number : goal.invariant-loop-number
invariant-loop-number l = l.mask ≡ set_below l.number (is_unguarded (map transition_of l.transitions))
