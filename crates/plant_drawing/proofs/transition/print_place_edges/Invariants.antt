-- The arrows of the places from this one on are left.
use Rattle.std.proofs.Common.{drop}
use Rattle.std.specs.Prelude.{flat_map}
use Rattle.text_io.proofs.Leading.{Leads}
use Rattle.plant_drawing.specs.Atom.{place_edge}
use Rattle.plant_drawing.proofs.transition.print_place_edges.Given as goal

abbrev pub invariant-loop-place : goal.invariant-loop-place
invariant-loop-place g l =
    Leads (g.W.Write.contents l.initial.output) (g.W.Write.contents l.output)
    (flat_map (place_edge l.is_source l.atom l.transition) (drop l.place-index l.places))
    (flat_map (place_edge l.is_source l.atom l.transition) l.places)
