use Rattle.std.proofs.Common.{arith}
use Rattle.petri_atom.specs.Atom.{definition_of}
use Rattle.petri_atom.specs.Parts.{port_of}
use Rattle.plant_drawing.specs.Atom.{port_line}
use Rattle.plant_drawing.proofs.Listing.{leads-known}
use Rattle.plant_drawing.proofs.atom.print_ports.Goals as goal

pub loop-port-preserved : goal.loop-port-preserved
loop-port-preserved g c =
    leads-known port_of (port_line c.args.number (definition_of c.args.atom.now)) c.ports-made-items.result.now (definition_of c.args.atom.now).ports c.loop-port.port c.made-item.result
    (g.W.Write.contents c.args.output.now) (g.W.Write.contents c.loop-port.output) (g.W.Write.contents c.print_port.new.output) _
    c.ports-made-items.ensures (omega arith) c.made-item.is c.loop-port.invariant c.in_ok-print_port.ensures
