use Rattle.std.proofs.KnownBytes.{Appends-trans}
use Rattle.text_io.proofs.Leading.{printed-last}
use Rattle.run_states.proofs.objects.print_object.Goals as goal

pub returns : goal.returns
returns g c =
    printed-last c.print_text-2.result _ _ _ _ _ (Appends-trans _ _ _ _ _ c.in_ok-print_text.ensures c.in_ok-print_state_members.ensures) c.print_text-2.ensures
