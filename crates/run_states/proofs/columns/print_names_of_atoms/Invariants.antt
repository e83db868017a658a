-- The atoms from this one on are left.
use Rattle.std.proofs.Common.{drop, map}
use Rattle.std.specs.Prelude.{flat_map}
use Rattle.petri_atom.specs.Atom.{definition_of}
use Rattle.text_io.proofs.Leading.{Leads}
use Rattle.run_states.specs.Columns.{atom_names}
use Rattle.run_states.proofs.columns.print_names_of_atoms.Given as goal

abbrev pub invariant-loop-atom : goal.invariant-loop-atom
invariant-loop-atom g l =
    Leads (g.W.Write.contents l.initial.output) (g.W.Write.contents l.output)
    (flat_map atom_names (drop l.atom-index (map definition_of l.atoms)))
    (flat_map atom_names (map definition_of l.atoms))
