use Rattle.std.proofs.Common.{length}
use Rattle.plant_model.proofs.lookup.+are_of_atoms.Given as goal

abbrev pub decreases-are_of_atoms : goal.decreases-are_of_atoms
decreases-are_of_atoms l = length l.ports.now
