-- The connectors from this number on are left.
use Rattle.std.proofs.Common.{drop, map}
use Rattle.std.specs.Prelude.{flat_map}
use Rattle.plant_model.specs.Wire.{wire_of}
use Rattle.text_io.specs.Numbered.{numbered}
use Rattle.text_io.proofs.Leading.{Leads}
use Rattle.plant_warnings.specs.Connectors.{connector_warnings}
use Rattle.plant_warnings.specs.Report.{line_in}
use Rattle.plant_warnings.proofs.connectors.print_of_wires.Given as goal

abbrev pub invariant-loop-number : goal.invariant-loop-number
invariant-loop-number g l =
    Leads (g.W.Write.contents l.initial.output) (g.W.Write.contents l.output)
    (flat_map (line_in l.report) (numbered connector_warnings l.number (drop l.number (map wire_of l.wires))))
    (flat_map (line_in l.report) (numbered connector_warnings 0 (map wire_of l.wires)))
