use Rattle.std.proofs.Common.{arith}
use Rattle.plant_model.specs.Wire.{wire_of}
use Rattle.plant_drawing.specs.Outline.{drawn_outline}
use Rattle.plant_drawing.proofs.Listing.{leads-mapped}
use Rattle.plant_drawing.proofs.outline.print_wires.Goals as goal

pub loop-number-preserved : goal.loop-number-preserved
loop-number-preserved g c =
    leads-mapped wire_of (drawn_outline c.args.drawn) c.args.wires.now c.loop-number.number c.index-wires-number.result
    (g.W.Write.contents c.args.output.now) (g.W.Write.contents c.loop-number.output) (g.W.Write.contents c.print_drawn_wire.new.output) _
    (omega arith) c.index-wires-number.is c.loop-number.invariant c.in_ok-print_drawn_wire.ensures
