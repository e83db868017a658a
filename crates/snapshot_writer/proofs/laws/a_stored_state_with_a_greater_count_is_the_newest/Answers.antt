use Rattle.snapshot_writer.proofs.StoredCells.{is_newest_now}
use Rattle.snapshot_writer.proofs.laws.a_stored_state_with_a_greater_count_is_the_newest.Goals as goal

pub returns-clause-newest : goal.returns-clause-newest
returns-clause-newest c slot saved before cells within free left there above = (is_newest_now slot saved before cells within free left there above).newest_is

pub returns-clause-slot : goal.returns-clause-slot
returns-clause-slot c slot saved before cells within free left there above = (is_newest_now slot saved before cells within free left there above).slot_is
