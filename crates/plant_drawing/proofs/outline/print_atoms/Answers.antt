use Rattle.std.proofs.Common.{arith}
use Rattle.petri_atom.specs.Atom.{definition_of}
use Rattle.plant_drawing.specs.Outline.{drawn_box}
use Rattle.plant_drawing.proofs.Listing.{leads-mapped}
use Rattle.plant_drawing.proofs.outline.print_atoms.Goals as goal

pub loop-number-preserved : goal.loop-number-preserved
loop-number-preserved g c =
    leads-mapped definition_of (drawn_box c.args.drawn) c.args.atoms.now c.loop-number.number c.index-atoms-number.result
    (g.W.Write.contents c.args.output.now) (g.W.Write.contents c.loop-number.output) (g.W.Write.contents c.print_drawn_box.new.output) _
    (omega arith) c.index-atoms-number.is c.loop-number.invariant c.in_ok-print_drawn_box.ensures
