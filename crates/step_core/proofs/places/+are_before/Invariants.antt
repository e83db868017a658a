-- Each call has one move less.
use Rattle.std.proofs.Common.{length}
use Rattle.step_core.proofs.places.+are_before.Given as goal

abbrev pub decreases-are_before : goal.decreases-are_before
decreases-are_before l = length l.moves.now
