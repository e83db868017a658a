use Rattle.plant_tasks.proofs.Printing.{appended_then, prints_then}
use Rattle.plant_tasks.proofs.reaching.print_object.Goals as goal

pub returns : goal.returns
returns g c =
    prints_then _ _ _ _ _ _
    (appended_then _ _ _ _ _ (appended_then _ _ _ _ _ c.in_ok-print_text.ensures c.in_ok-print_number.ensures) c.in_ok-print_named.ensures) c.print_text-2.ensures
