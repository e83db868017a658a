use Rattle.std.proofs.Common.{arith}
use Rattle.plant_model.specs.System.{plant_of}
use Rattle.run_states.specs.Values.{atom_values}
use Rattle.run_states.proofs.OfAtoms.{leads-atom}
use Rattle.run_states.proofs.values.print_values.Goals as goal

pub loop-number-preserved : goal.loop-number-preserved
loop-number-preserved g c =
    leads-atom (plant_of c.args.plant.now.system.now) c.atoms-atom-items.result.now c.loop-number.number c.atom-item.result c.atoms-atom-items.ensures (omega arith) c.atom-item.is
    c.args.plant.now.states.now c.state.result.now (g.W.Write.contents c.args.output.now) (g.W.Write.contents c.loop-number.output) (g.W.Write.contents c.print_atom.new.output) _
    c.state.ensures atom_values c.loop-number.invariant c.in_ok-print_atom.ensures
