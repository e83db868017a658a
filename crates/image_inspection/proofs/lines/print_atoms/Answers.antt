use Rattle.std.proofs.Common.{arith}
use Rattle.std.specs.Prelude.{option_copied}
use Rattle.image_inspection.specs.Lines.{atom_line}
use Rattle.image_inspection.proofs.Ranges.{leads-number}
use Rattle.image_inspection.proofs.lines.print_atoms.Goals as goal

pub loop-atom-preserved : goal.loop-atom-preserved
loop-atom-preserved g c =
    leads-number (atom_line (option_copied c.args.names) c.args.cells.now c.args.saved.now c.args.marks.now) c.loop-atom.atom c.args.atoms _ _ _ _ (omega arith)
    c.loop-atom.invariant c.in_ok-print_atom_line.ensures
