use Rattle.plant_core.specs.Plants.{definition_of, device_of, text_digest, view_of}
use Rattle.durable_bench.proofs.printing.measure_working.Given as goal

-- the host that was just named
abbrev pub ghosts-fire_shared-N-Naming : goal.ghosts-fire_shared-N-Naming
ghosts-fire_shared-N-Naming g a = record { plant = definition_of a.plant; view = view_of a.plant; digest = text_digest a.plant; keeps = (device_of a.plant).keeps; seats = a.named.seats }

abbrev pub ghosts-fire_shared-N-WordNaming : goal.ghosts-fire_shared-N-WordNaming
ghosts-fire_shared-N-WordNaming g a = record { table = a.named.table; opening = a.named.opening }

abbrev pub ghosts-fire_shared-N-Ledger : goal.ghosts-fire_shared-N-Ledger
ghosts-fire_shared-N-Ledger g a = record { name = a.named.ledger; parts = a.named.parts }
