use Rattle.std.proofs.Common.{arith, codes}
use Rattle.std.proofs.KnownBytes.{Appends-trans}
use Rattle.plant_model.specs.System.{plant_of}
use Rattle.run_states.specs.Objects.{atom_object}
use Rattle.run_states.proofs.OfAtoms.{leads-atom-word}
use Rattle.run_states.proofs.objects.print_objects.Goals as goal

pub loop-number-preserved : goal.loop-number-preserved
loop-number-preserved g c =
    leads-atom-word (plant_of c.args.plant.now.system.now) c.atoms-atom-items.result.now c.loop-number.number c.atom-item.result c.atoms-atom-items.ensures (omega arith) c.atom-item.is
    c.args.plant.now.states.now c.state.result.now (g.W.Write.contents c.args.output.now) (g.W.Write.contents c.loop-number.output) (g.W.Write.contents c.print_object.new.output) _
    c.state.ensures (λ n. atom_object) c.loop-number.between.now (codes ",") c.loop-number.invariant (Appends-trans _ _ _ _ _ c.in_ok-print_text.ensures c.in_ok-print_object.ensures)
