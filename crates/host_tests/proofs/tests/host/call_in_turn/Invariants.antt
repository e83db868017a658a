use Rattle.plant_core.specs.Plants.{definition_of, device_of, text_digest, view_of}
use Rattle.host_tests.proofs.tests.host.call_in_turn.Given as goal

-- the host that was just named
abbrev pub ghosts-call_one_waits-N-Naming : goal.ghosts-call_one_waits-N-Naming
ghosts-call_one_waits-N-Naming g a = record { plant = definition_of a.plant; view = view_of a.plant; digest = text_digest a.plant; keeps = (device_of a.plant).keeps; seats = a.named.seats }

abbrev pub ghosts-call_one_waits-N-WordNaming : goal.ghosts-call_one_waits-N-WordNaming
ghosts-call_one_waits-N-WordNaming g a = record { table = a.named.table; opening = a.named.opening }

abbrev pub ghosts-call_one_waits-N-Ledger : goal.ghosts-call_one_waits-N-Ledger
ghosts-call_one_waits-N-Ledger g a = record { name = a.named.ledger; parts = a.named.parts }
