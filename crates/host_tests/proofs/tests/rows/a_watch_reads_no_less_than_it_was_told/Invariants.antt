use Rattle.plant_core.specs.Plants.{definition_of, device_of, text_digest, view_of}
use Rattle.host_tests.proofs.tests.rows.a_watch_reads_no_less_than_it_was_told.Given as goal

-- the host that was just named
abbrev pub ghosts-run_row-N-Naming : goal.ghosts-run_row-N-Naming
ghosts-run_row-N-Naming g a = record { plant = definition_of a.plant; view = view_of a.plant; digest = text_digest a.plant; keeps = (device_of a.plant).keeps; seats = a.named.seats }

abbrev pub ghosts-run_row-N-WordNaming : goal.ghosts-run_row-N-WordNaming
ghosts-run_row-N-WordNaming g a = record { table = a.named.table; opening = a.named.opening }

abbrev pub ghosts-run_row-N-Ledger : goal.ghosts-run_row-N-Ledger
ghosts-run_row-N-Ledger g a = record { name = a.named.ledger; parts = a.named.parts }
