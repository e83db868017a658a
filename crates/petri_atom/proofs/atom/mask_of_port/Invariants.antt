use Rattle.std.proofs.Common.{◌≡◌, map}
use Rattle.petri_atom.specs.Local.{set_below}
use Rattle.petri_atom.specs.Parts.{is_of_port}
use Rattle.petri_atom.specs.Transition.{transition_of}
use Rattle.petri_atom.proofs.atom.mask_of_port.Given as goal

abbrev pub invariant-loop-number : goal.invariant-loop-number
invariant-loop-number l = l.mask ≡ set_below l.number (is_of_port l.port (map transition_of l.transitions))
