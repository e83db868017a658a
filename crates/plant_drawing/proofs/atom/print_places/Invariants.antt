-- The places from this number on are left.
use Rattle.std.proofs.Common.{drop}
use Rattle.text_io.specs.Numbered.{numbered}
use Rattle.text_io.proofs.Leading.{Leads}
use Rattle.plant_drawing.specs.Atom.{place_line}
use Rattle.plant_drawing.proofs.atom.print_places.Given as goal

abbrev pub invariant-loop-number : goal.invariant-loop-number
invariant-loop-number g l =
    Leads (g.W.Write.contents l.initial.output) (g.W.Write.contents l.output)
    (numbered (place_line l.marking l.atom) l.number (drop l.number l.places))
    (numbered (place_line l.marking l.atom) 0 l.places)
