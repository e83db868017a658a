-- The connectors from this number on are left.
use Rattle.std.proofs.Common.{drop, map}
use Rattle.plant_model.specs.Wire.{wire_of}
use Rattle.text_io.specs.Numbered.{numbered}
use Rattle.text_io.proofs.Leading.{Leads}
use Rattle.run_summary.specs.Lines.{connector_line}
use Rattle.run_summary.proofs.connectors.print_connectors.Given as goal

abbrev pub invariant-loop-number : goal.invariant-loop-number
invariant-loop-number g l =
    Leads (g.W.Write.contents l.initial.output) (g.W.Write.contents l.output)
    (numbered (connector_line l.listing l.counts) l.number (drop l.number (map wire_of l.wires)))
    (numbered (connector_line l.listing l.counts) 0 (map wire_of l.wires))
