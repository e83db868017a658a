use Rattle.std.proofs.Common.{length}
use Rattle.petri_atom.proofs.parts.+numbers_stand_once.Given as goal

abbrev pub decreases-numbers_stand_once : goal.decreases-numbers_stand_once
decreases-numbers_stand_once l = length l.numbers.now
