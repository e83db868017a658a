use Rattle.script_lines.proofs.mistake_text.+print_more_names.Given as goal

abbrev pub decreases-print_more_names : goal.decreases-print_more_names
decreases-print_more_names g l = l.room
