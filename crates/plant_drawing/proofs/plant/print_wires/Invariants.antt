-- The connectors from this number on are left.
use Rattle.std.proofs.Common.{drop}
use Rattle.step_core.specs.Running.{plant_in, states_in}
use Rattle.text_io.specs.Numbered.{numbered}
use Rattle.text_io.proofs.Leading.{Leads}
use Rattle.plant_drawing.specs.Connector.{drawn_connector}
use Rattle.plant_drawing.specs.Drawn.{is_coloured}
use Rattle.plant_drawing.proofs.plant.print_wires.Given as goal

abbrev pub invariant-loop-number : goal.invariant-loop-number
invariant-loop-number g l =
    let say = drawn_connector (plant_in l.run).atoms l.drawn (is_coloured l.filling (plant_in l.run) (states_in l.run)) in
    Leads (g.W.Write.contents l.initial.output) (g.W.Write.contents l.output)
    (numbered say l.number (drop l.number (plant_in l.run).wires)) (numbered say 0 (plant_in l.run).wires)
