use Rattle.std.proofs.Common.{◌≡◌, map}
use Rattle.petri_atom.specs.Local.{set_below}
use Rattle.petri_atom.specs.Groups.{is_turned_number}
use Rattle.petri_atom.specs.Transition.{transition_of}
use Rattle.petri_atom.proofs.atom.mask_of_turned.Given as goal

abbrev pub invariant-loop-number : goal.invariant-loop-number
invariant-loop-number l = l.mask ≡ set_below l.number (is_turned_number (map transition_of l.transitions))
