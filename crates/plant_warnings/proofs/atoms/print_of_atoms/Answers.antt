use Rattle.std.proofs.Common.{arith}
use Rattle.petri_atom.specs.Atom.{definition_of}
use Rattle.plant_model.specs.System.{plant_of}
use Rattle.plant_warnings.specs.Atoms.{atom_warnings}
use Rattle.plant_warnings.specs.Report.{line_in}
use Rattle.plant_warnings.proofs.Warned.{leads-warned_as}
use Rattle.plant_warnings.proofs.atoms.print_of_atoms.Goals as goal

pub loop-number-preserved : goal.loop-number-preserved
loop-number-preserved g c =
    leads-warned_as definition_of (atom_warnings (plant_of c.args.report.now.system.now)) (line_in c.args.report.now) c.args.atoms.now c.loop-number.number c.index-atoms-number.result
    (g.W.Write.contents c.args.output.now) (g.W.Write.contents c.loop-number.output) (g.W.Write.contents c.print_of_atom.new.output) _
    (omega arith) c.index-atoms-number.is c.loop-number.invariant c.in_ok-print_of_atom.ensures
