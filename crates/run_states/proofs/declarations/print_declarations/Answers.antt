use Rattle.std.proofs.Common.{ap, subst}
use Rattle.std.specs.Io.KnownBytes.{Appends}
use Rattle.std.proofs.KnownBytes.{Appends-trans}
use Rattle.text_io.specs.Numbered.{numbered}
use Rattle.text_io.proofs.Leading.{printed-last}
use Rattle.run_states.specs.Declarations.{module_lines}
use Rattle.run_states.proofs.declarations.print_declarations.Goals as goal

pub returns : goal.returns
returns g c =
    printed-last c.print_text-2.result _ _ _ _ _
    (Appends-trans _ _ _ _ _ c.in_ok-print_text.ensures (subst (Appends _ _) (ap (numbered module_lines 0) c.atoms.ensures) c.in_ok-print_modules.ensures))
    c.print_text-2.ensures
