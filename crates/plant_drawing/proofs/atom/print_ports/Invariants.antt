-- The ports from this number on are left.
use Rattle.std.proofs.Common.{drop}
use Rattle.petri_atom.specs.Atom.{definition_of}
use Rattle.text_io.specs.Numbered.{numbered}
use Rattle.text_io.proofs.Leading.{Leads}
use Rattle.plant_drawing.specs.Atom.{port_line}
use Rattle.plant_drawing.proofs.atom.print_ports.Given as goal

abbrev pub invariant-loop-port : goal.invariant-loop-port
invariant-loop-port g l =
    Leads (g.W.Write.contents l.initial.output) (g.W.Write.contents l.output)
    (numbered (port_line l.number (definition_of l.atom)) l.port (drop l.port (definition_of l.atom).ports))
    (numbered (port_line l.number (definition_of l.atom)) 0 (definition_of l.atom).ports)
