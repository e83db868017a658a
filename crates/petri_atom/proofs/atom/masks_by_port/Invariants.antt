use Rattle.std.proofs.Common.{◌≡◌, map}
use Rattle.petri_atom.specs.Parts.{sets_below}
use Rattle.petri_atom.specs.Transition.{transition_of}
use Rattle.petri_atom.proofs.atom.masks_by_port.Given as goal

abbrev pub invariant-loop-port : goal.invariant-loop-port
invariant-loop-port l = l.masks.items ≡ sets_below l.port (map transition_of l.transitions)
