-- The labels of the transitions from this number on are left.
use Rattle.std.proofs.Common.{drop}
use Rattle.petri_atom.specs.Atom.{definition_of}
use Rattle.text_io.specs.Numbered.{numbered}
use Rattle.text_io.proofs.Leading.{Leads}
use Rattle.plant_drawing.specs.Atom.{further_label}
use Rattle.plant_drawing.proofs.machine.print_further_labels.Given as goal

abbrev pub invariant-loop-transition : goal.invariant-loop-transition
invariant-loop-transition g l =
    Leads (g.W.Write.contents l.initial.output) (g.W.Write.contents l.output)
    (numbered (further_label (definition_of l.atom) l.place l.first) l.transition (drop l.transition (definition_of l.atom).transitions))
    (numbered (further_label (definition_of l.atom) l.place l.first) 0 (definition_of l.atom).transitions)
