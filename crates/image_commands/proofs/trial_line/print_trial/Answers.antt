-- The parts of a trial's line are appended one after another.
use Rattle.std.proofs.KnownBytes.{Appends-trans}
use Rattle.image_commands.proofs.Trials.{appended_last}
use Rattle.image_commands.proofs.trial_line.print_trial.Goals as goal

pub returns : goal.returns
returns g c =
    appended_last _ _ _ _ _ _
    (Appends-trans _ _ _ _ _ (Appends-trans _ _ _ _ _ (Appends-trans _ _ _ _ _ (Appends-trans _ _ _ _ _ (Appends-trans _ _ _ _ _ (Appends-trans _ _ _ _ _
    (Appends-trans _ _ _ _ _ (Appends-trans _ _ _ _ _ (Appends-trans _ _ _ _ _ (Appends-trans _ _ _ _ _ (Appends-trans _ _ _ _ _
    c.in_ok-print_mark.ensures c.in_ok-print_text.ensures) c.in_ok-print_number.ensures) c.in_ok-print_text-2.ensures) c.in_ok-print_cut.ensures) c.in_ok-print_text-3.ensures)
    c.in_ok-print_tear.ensures) c.in_ok-print_text-4.ensures) c.in_ok-print_found.ensures) c.in_ok-print_text-5.ensures) c.in_ok-print_number-2.ensures)
    c.in_ok-print_next.ensures)
    c.end_line.ensures
