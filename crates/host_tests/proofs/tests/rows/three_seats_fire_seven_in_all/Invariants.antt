use Rattle.plant_core.specs.Plants.{definition_of, device_of, text_digest, view_of}
use Rattle.host_tests.proofs.tests.rows.three_seats_fire_seven_in_all.Given as goal

-- the host that was just named
abbrev pub ghosts-three_seats-N-Naming : goal.ghosts-three_seats-N-Naming
ghosts-three_seats-N-Naming g a = record { plant = definition_of a.plant; view = view_of a.plant; digest = text_digest a.plant; keeps = (device_of a.plant).keeps; seats = a.named.seats }

abbrev pub ghosts-three_seats-N-WordNaming : goal.ghosts-three_seats-N-WordNaming
ghosts-three_seats-N-WordNaming g a = record { table = a.named.table; opening = a.named.opening }

abbrev pub ghosts-three_seats-N-Ledger : goal.ghosts-three_seats-N-Ledger
ghosts-three_seats-N-Ledger g a = record { name = a.named.ledger; parts = a.named.parts }
