use Rattle.plant_core.specs.Plants.{definition_of, device_of, text_digest, view_of}
use Rattle.host_tests.proofs.tests.rows.one_seat_behind.Given as goal

-- the host that was just named
abbrev pub ghosts-one_seat-N-Naming : goal.ghosts-one_seat-N-Naming
ghosts-one_seat-N-Naming g a = record { plant = definition_of a.plant; view = view_of a.plant; digest = text_digest a.plant; keeps = (device_of a.plant).keeps; seats = a.named.seats }

abbrev pub ghosts-one_seat-N-WordNaming : goal.ghosts-one_seat-N-WordNaming
ghosts-one_seat-N-WordNaming g a = record { table = a.named.table; opening = a.named.opening }

abbrev pub ghosts-one_seat-N-Ledger : goal.ghosts-one_seat-N-Ledger
ghosts-one_seat-N-Ledger g a = record { name = a.named.ledger; parts = a.named.parts }
