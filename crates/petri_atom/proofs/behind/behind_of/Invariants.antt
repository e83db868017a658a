use Rattle.std.proofs.Common.{map}
use Rattle.petri_atom.specs.Behind.{IsBehind}
use Rattle.petri_atom.specs.Transition.{transition_of}
use Rattle.petri_atom.proofs.behind.behind_of.Given as goal

abbrev pub invariant-loop-number : goal.invariant-loop-number
invariant-loop-number l = IsBehind (map transition_of l.transitions) l.number (transition_of l.fired) l.exports l.told
