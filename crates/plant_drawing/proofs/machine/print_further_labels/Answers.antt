use Rattle.std.proofs.Common.{arith}
use Rattle.petri_atom.specs.Atom.{definition_of}
use Rattle.petri_atom.specs.Transition.{transition_of}
use Rattle.plant_drawing.specs.Atom.{further_label}
use Rattle.plant_drawing.proofs.Listing.{leads-known}
use Rattle.plant_drawing.proofs.machine.print_further_labels.Goals as goal

pub loop-transition-preserved : goal.loop-transition-preserved
loop-transition-preserved g c =
    leads-known transition_of (further_label (definition_of c.args.atom.now) c.args.place c.args.first) c.transitions-made-items.result.now (definition_of c.args.atom.now).transitions c.loop-transition.transition c.made-item.result
    (g.W.Write.contents c.args.output.now) (g.W.Write.contents c.loop-transition.output) (g.W.Write.contents c.print_further_label.new.output) _
    c.transitions-made-items.ensures (omega arith) c.made-item.is c.loop-transition.invariant c.in_ok-print_further_label.ensures
