use Rattle.std.proofs.Common.{arith}
use Rattle.petri_atom.specs.Atom.{definition_of}
use Rattle.plant_warnings.specs.Atoms.{place_warnings}
use Rattle.plant_warnings.specs.Report.{line_in}
use Rattle.plant_warnings.proofs.Warned.{leads-warned_of}
use Rattle.plant_warnings.proofs.atoms.print_of_places.Goals as goal

pub loop-place-preserved : goal.loop-place-preserved
loop-place-preserved g c =
    leads-warned_of (place_warnings c.args.number (definition_of c.args.atom.now)) (line_in c.args.report.now) c.places-made-items.result.now _ c.loop-place.place c.made-item.result
    (g.W.Write.contents c.args.output.now) (g.W.Write.contents c.loop-place.output) (g.W.Write.contents c.print_of_place.new.output) _
    c.places-made-items.ensures (omega arith) c.made-item.is c.loop-place.invariant c.in_ok-print_of_place.ensures
