-- The variables from this number on are left.
use Rattle.std.proofs.Common.{drop}
use Rattle.text_io.specs.Numbered.{numbered}
use Rattle.text_io.proofs.Leading.{Leads}
use Rattle.plant_drawing.specs.Atom.{variable_text}
use Rattle.plant_drawing.proofs.atom.print_variables.Given as goal

abbrev pub invariant-loop-number : goal.invariant-loop-number
invariant-loop-number g l =
    Leads (g.W.Write.contents l.initial.output) (g.W.Write.contents l.output)
    (numbered (variable_text l.values) l.number (drop l.number l.variables))
    (numbered (variable_text l.values) 0 l.variables)
