use Rattle.std.proofs.Common.{map}
use Rattle.petri_atom.specs.StraightCode.{IsTransitionCode}
use Rattle.petri_atom.specs.Transition.{transition_of}
use Rattle.petri_atom.proofs.Coded.{AreFirst}
use Rattle.petri_atom.proofs.transition_code.codes_of.Given as goal

abbrev pub invariant-loop-transition : goal.invariant-loop-transition
invariant-loop-transition l = AreFirst (IsTransitionCode (map transition_of l.transitions)) l.transition-index l.codes.items (map transition_of l.transitions)
