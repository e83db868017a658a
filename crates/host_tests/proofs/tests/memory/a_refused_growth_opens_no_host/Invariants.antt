use Rattle.plant_core.specs.Plants.{definition_of, device_of, text_digest, view_of}
use Rattle.host_tests.proofs.tests.memory.a_refused_growth_opens_no_host.Given as goal

-- the host that was just named
abbrev pub ghosts-opened_and_closed-N-Naming : goal.ghosts-opened_and_closed-N-Naming
ghosts-opened_and_closed-N-Naming g a = record { plant = definition_of a.plant; view = view_of a.plant; digest = text_digest a.plant; keeps = (device_of a.plant).keeps; seats = a.named.seats }

abbrev pub ghosts-opened_and_closed-N-WordNaming : goal.ghosts-opened_and_closed-N-WordNaming
ghosts-opened_and_closed-N-WordNaming g a = record { table = a.named.table; opening = a.named.opening }

abbrev pub ghosts-opened_and_closed-N-Ledger : goal.ghosts-opened_and_closed-N-Ledger
ghosts-opened_and_closed-N-Ledger g a = record { name = a.named.ledger; parts = a.named.parts }
