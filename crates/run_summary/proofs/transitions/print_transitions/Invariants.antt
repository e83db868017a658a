-- The atoms from this number on are left.
use Rattle.std.proofs.Common.{drop, map}
use Rattle.petri_atom.specs.Atom.{definition_of}
use Rattle.text_io.specs.Numbered.{numbered}
use Rattle.text_io.proofs.Leading.{Leads}
use Rattle.run_summary.specs.Lines.{transition_lines}
use Rattle.run_summary.proofs.transitions.print_transitions.Given as goal

abbrev pub invariant-loop-number : goal.invariant-loop-number
invariant-loop-number g l =
    Leads (g.W.Write.contents l.initial.output) (g.W.Write.contents l.output)
    (numbered (transition_lines l.listing l.summaries) l.number (drop l.number (map definition_of l.atoms)))
    (numbered (transition_lines l.listing l.summaries) 0 (map definition_of l.atoms))
