-- The transitions from this number on are left.
use Rattle.std.proofs.Common.{drop}
use Rattle.petri_atom.specs.Atom.{definition_of}
use Rattle.text_io.specs.Numbered.{numbered}
use Rattle.text_io.proofs.Leading.{Leads}
use Rattle.run_summary.specs.Lines.{transition_line}
use Rattle.run_summary.proofs.transitions.print_counted.Given as goal

abbrev pub invariant-loop-number : goal.invariant-loop-number
invariant-loop-number g l =
    Leads (g.W.Write.contents l.initial.output) (g.W.Write.contents l.output)
    (numbered (transition_line l.listing (definition_of l.atom) l.counts) l.number (drop l.number (definition_of l.atom).transitions))
    (numbered (transition_line l.listing (definition_of l.atom) l.counts) 0 (definition_of l.atom).transitions)
