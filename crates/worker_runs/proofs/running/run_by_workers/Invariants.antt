use Rattle.plant_core.specs.Plants.{definition_of, device_of, text_digest, view_of}
use Rattle.worker_runs.proofs.running.run_by_workers.Given as goal

-- the host that was just named
abbrev pub ghosts-share_out-N-Naming : goal.ghosts-share_out-N-Naming
ghosts-share_out-N-Naming g a = record { plant = definition_of a.plant; view = view_of a.plant; digest = text_digest a.plant; keeps = (device_of a.plant).keeps; seats = a.named.seats }

abbrev pub ghosts-share_out-N-WordNaming : goal.ghosts-share_out-N-WordNaming
ghosts-share_out-N-WordNaming g a = record { table = a.named.table; opening = a.named.opening }

abbrev pub ghosts-share_out-N-Ledger : goal.ghosts-share_out-N-Ledger
ghosts-share_out-N-Ledger g a = record { name = a.named.ledger; parts = a.named.parts }
