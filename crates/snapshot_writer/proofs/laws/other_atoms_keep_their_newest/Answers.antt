use Rattle.snapshot_writer.proofs.StoredCells.{others_stay}
use Rattle.snapshot_writer.proofs.laws.other_atoms_keep_their_newest.Goals as goal

pub returns : goal.returns
returns c = others_stay
