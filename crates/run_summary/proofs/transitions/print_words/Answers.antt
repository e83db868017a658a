use Rattle.text_io.proofs.Leading.{printed-last}
use Rattle.run_summary.proofs.transitions.print_words.Goals as goal

pub returns : goal.returns
returns g c =
    printed-last c.print_transition_name.result _ _ _ _ _ c.in_ok-print_text.ensures c.print_transition_name.ensures
