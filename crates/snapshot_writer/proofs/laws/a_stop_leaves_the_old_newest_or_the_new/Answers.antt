use Rattle.snapshot_writer.proofs.StoredCells.{kept_or_stored}
use Rattle.snapshot_writer.proofs.laws.a_stop_leaves_the_old_newest_or_the_new.Goals as goal

pub returns : goal.returns
returns c = kept_or_stored
