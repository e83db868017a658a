use Rattle.std.proofs.Common.{ap, subst}
use Rattle.std.specs.Prelude.{flat_map}
use Rattle.std.specs.Io.KnownBytes.{Appends}
use Rattle.std.proofs.KnownBytes.{Appends-trans}
use Rattle.text_io.proofs.Leading.{printed-last}
use Rattle.run_states.specs.Columns.{atom_names}
use Rattle.run_states.proofs.columns.print_names.Goals as goal

pub returns : goal.returns
returns g c =
    printed-last c.end_line.result _ _ _ _ _
    (Appends-trans _ _ _ _ _ c.in_ok-print_text.ensures (subst (Appends _ _) (ap (flat_map atom_names) c.atoms.ensures) c.in_ok-print_names_of_atoms.ensures))
    c.end_line.ensures
