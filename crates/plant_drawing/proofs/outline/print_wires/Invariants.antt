-- The connectors from this number on are left.
use Rattle.std.proofs.Common.{drop, map}
use Rattle.plant_model.specs.Wire.{wire_of}
use Rattle.text_io.specs.Numbered.{numbered}
use Rattle.text_io.proofs.Leading.{Leads}
use Rattle.plant_drawing.specs.Outline.{drawn_outline}
use Rattle.plant_drawing.proofs.outline.print_wires.Given as goal

abbrev pub invariant-loop-number : goal.invariant-loop-number
invariant-loop-number g l =
    Leads (g.W.Write.contents l.initial.output) (g.W.Write.contents l.output)
    (numbered (drawn_outline l.drawn) l.number (drop l.number (map wire_of l.wires)))
    (numbered (drawn_outline l.drawn) 0 (map wire_of l.wires))
