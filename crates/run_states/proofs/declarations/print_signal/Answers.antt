use Rattle.std.proofs.KnownBytes.{Appends-trans}
use Rattle.text_io.proofs.Leading.{printed-last}
use Rattle.run_states.proofs.declarations.print_signal.Goals as goal

pub returns : goal.returns
returns g c =
    printed-last c.print_text-6.result _ _ _ _ _
    (Appends-trans _ _ _ _ _ (Appends-trans _ _ _ _ _ (Appends-trans _ _ _ _ _ (Appends-trans _ _ _ _ _ (Appends-trans _ _ _ _ _
    c.in_ok-print_text.ensures c.in_ok-print_text-2.ensures) c.in_ok-print_text-3.ensures) c.in_ok-print_code.ensures) c.in_ok-print_text-4.ensures) c.in_ok-print_text-5.ensures)
    c.print_text-6.ensures
