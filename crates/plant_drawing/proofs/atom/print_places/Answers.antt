use Rattle.std.proofs.Common.{arith}
use Rattle.text_io.proofs.Leading.{leads-element}
use Rattle.plant_drawing.specs.Atom.{place_line}
use Rattle.plant_drawing.proofs.atom.print_places.Goals as goal

pub loop-number-preserved : goal.loop-number-preserved
loop-number-preserved g c =
    leads-element (place_line c.args.marking c.args.atom) c.args.places.now c.loop-number.number c.index-places-number.result
    (g.W.Write.contents c.args.output.now) (g.W.Write.contents c.loop-number.output) (g.W.Write.contents c.print_place.new.output) _
    (omega arith) c.index-places-number.is c.loop-number.invariant c.in_ok-print_place.ensures
