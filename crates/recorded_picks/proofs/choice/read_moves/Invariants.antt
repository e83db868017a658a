use Rattle.std.proofs.Common.{length}
use Rattle.plant_model.specs.System.{plant_of}
use Rattle.recorded_picks.proofs.Reading.{AreRead}
use Rattle.recorded_picks.proofs.choice.read_moves.Given as goal

abbrev pub invariant-loop-word : goal.invariant-loop-word
invariant-loop-word l = AreRead (plant_of l.names.system.now) l.initial.words l.words l.moves

abbrev pub decreases-loop-word : goal.decreases-loop-word
decreases-loop-word l = length l.words
