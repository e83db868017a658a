-- The atoms from this number on are left.
use Rattle.std.proofs.Common.{◌-◌}
use Rattle.std.specs.Prelude.{flat_map, option_copied}
use Rattle.std.specs.List.{range_with_len}
use Rattle.text_io.proofs.Leading.{Leads}
use Rattle.image_inspection.specs.Lines.{atom_line}
use Rattle.image_inspection.proofs.lines.print_atoms.Given as goal

abbrev pub invariant-loop-atom : goal.invariant-loop-atom
invariant-loop-atom g l =
    Leads (g.W.Write.contents l.initial.output) (g.W.Write.contents l.output)
    (flat_map (atom_line (option_copied l.names) l.cells l.saved l.marks) (range_with_len l.atom (l.atoms - l.atom)))
    (flat_map (atom_line (option_copied l.names) l.cells l.saved l.marks) (range_with_len 0 l.atoms))
