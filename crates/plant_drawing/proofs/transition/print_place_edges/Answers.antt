use Rattle.std.proofs.Common.{arith}
use Rattle.plant_drawing.specs.Atom.{place_edge}
use Rattle.plant_drawing.proofs.Listing.{leads-printed}
use Rattle.plant_drawing.proofs.transition.print_place_edges.Goals as goal

pub loop-place-preserved : goal.loop-place-preserved
loop-place-preserved g c =
    leads-printed (place_edge c.args.is_source c.args.atom c.args.transition) c.args.places.now c.loop-place.place-index _
    (g.W.Write.contents c.args.output.now) (g.W.Write.contents c.loop-place.output) (g.W.Write.contents c.print_place_edge.new.output) _
    (omega arith) c.loop-place.invariant c.in_ok-print_place_edge.ensures
