use Rattle.std.proofs.KnownBytes.{Appends-trans}
use Rattle.step_session.proofs.mistakes.print_too_long.Goals as goal

pub returns : goal.returns
returns g c = Appends-trans _ _ _ _ _ (Appends-trans _ _ _ _ _ c.in_ok-print_text.ensures c.in_ok-print_number.ensures) c.in_ok-print_text-2.ensures
