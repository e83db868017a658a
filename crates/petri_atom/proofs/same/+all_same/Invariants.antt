use Rattle.std.proofs.Common.{length}
use Rattle.petri_atom.proofs.same.+all_same.Given as goal

abbrev pub decreases-all_same : goal.decreases-all_same
decreases-all_same g l = length l.mine.now
