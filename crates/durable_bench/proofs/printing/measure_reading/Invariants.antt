use Rattle.plant_core.specs.Plants.{definition_of, device_of, text_digest, view_of}
use Rattle.durable_bench.proofs.printing.measure_reading.Given as goal

-- the host that was just named
abbrev pub ghosts-fire_and_read-N-Naming : goal.ghosts-fire_and_read-N-Naming
ghosts-fire_and_read-N-Naming g a = record { plant = definition_of a.plant; view = view_of a.plant; digest = text_digest a.plant; keeps = (device_of a.plant).keeps; seats = a.named.seats }

abbrev pub ghosts-fire_and_read-N-WordNaming : goal.ghosts-fire_and_read-N-WordNaming
ghosts-fire_and_read-N-WordNaming g a = record { table = a.named.table; opening = a.named.opening }

abbrev pub ghosts-fire_and_read-N-Ledger : goal.ghosts-fire_and_read-N-Ledger
ghosts-fire_and_read-N-Ledger g a = record { name = a.named.ledger; parts = a.named.parts }
