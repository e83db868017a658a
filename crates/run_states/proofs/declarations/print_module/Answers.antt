use Rattle.std.proofs.Common.{◌∙◌, ap, subst}
use Rattle.std.specs.Io.KnownBytes.{Appends}
use Rattle.std.proofs.KnownBytes.{Appends-trans}
use Rattle.text_io.specs.Numbered.{numbered}
use Rattle.text_io.proofs.Leading.{printed-last}
use Rattle.run_states.specs.Declarations.{place_declaration, variable_declaration}
use Rattle.run_states.proofs.declarations.print_module.Goals as goal

pub returns : goal.returns
returns g c =
    printed-last c.print_text-4.result _ _ _ _ _
    (Appends-trans _ _ _ _ _ (Appends-trans _ _ _ _ _ (Appends-trans _ _ _ _ _ (Appends-trans _ _ _ _ _ c.in_ok-print_text.ensures
    (subst (Appends _ _) (c.as_bytes.ensures ∙ c.name.ensures) c.in_ok-print_text-2.ensures)) c.in_ok-print_text-3.ensures)
    (subst (Appends _ _) (ap (numbered (place_declaration c.args.number) 0) c.places.ensures) c.in_ok-print_places.ensures))
    (subst (Appends _ _) (ap (numbered (variable_declaration c.args.number) 0) c.variables.ensures) c.in_ok-print_variables.ensures))
    c.print_text-4.ensures
