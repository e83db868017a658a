-- The variables from this number on are left.
use Rattle.std.proofs.Common.{drop}
use Rattle.petri_atom.specs.Atom.{definition_of}
use Rattle.text_io.specs.Numbered.{numbered}
use Rattle.text_io.proofs.Leading.{Leads}
use Rattle.run_summary.specs.Lines.{variable_line}
use Rattle.run_summary.proofs.variables.print_bounded.Given as goal

abbrev pub invariant-loop-number : goal.invariant-loop-number
invariant-loop-number g l =
    Leads (g.W.Write.contents l.initial.output) (g.W.Write.contents l.output)
    (numbered (variable_line (definition_of l.atom) l.bounds) l.number (drop l.number (definition_of l.atom).variables))
    (numbered (variable_line (definition_of l.atom) l.bounds) 0 (definition_of l.atom).variables)
