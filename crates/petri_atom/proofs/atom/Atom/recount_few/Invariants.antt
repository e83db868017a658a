use Rattle.petri_atom.specs.Atom.{definition_of}
use Rattle.petri_atom.proofs.Recounting.{IsRecounting}
use Rattle.petri_atom.proofs.atom.Atom.recount_few.Given as goal

abbrev pub invariant-loop-left : goal.invariant-loop-left
invariant-loop-left l =
    IsRecounting (definition_of l.self) l.fn.before l.fn.after l.left l.initial.counts l.counts l.changed

abbrev pub decreases-loop-left : goal.decreases-loop-left
decreases-loop-left l = l.left
