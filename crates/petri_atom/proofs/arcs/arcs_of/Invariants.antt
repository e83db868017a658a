use Rattle.std.proofs.Common.{map}
use Rattle.petri_atom.specs.Arcs.{IsArcsOf, IsExported}
use Rattle.petri_atom.specs.Parts.{port_of}
use Rattle.petri_atom.specs.Transition.{transition_of}
use Rattle.petri_atom.proofs.Coded.{AreFirst}
use Rattle.petri_atom.proofs.arcs.arcs_of.Given as goal

abbrev pub invariant-loop-transition : goal.invariant-loop-transition
invariant-loop-transition l =
    AreFirst IsArcsOf l.transition-index l.arcs.items (map transition_of l.transitions) ×
    AreFirst (IsExported (map port_of l.ports)) l.transition-index l.arcs.items (map transition_of l.transitions)
