use Rattle.std.proofs.Common.{length}
use Rattle.petri_atom.proofs.parts.+names_stand_once.Given as goal

abbrev pub decreases-names_stand_once : goal.decreases-names_stand_once
decreases-names_stand_once g l = length l.parts.now
