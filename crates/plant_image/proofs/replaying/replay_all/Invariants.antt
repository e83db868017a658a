use Rattle.plant_model.specs.System.{plant_of}
use Rattle.plant_image.specs.Reading.{contents_in}
use Rattle.plant_image.proofs.SoFar.{SoFar}
use Rattle.plant_image.proofs.replaying.replay_all.Given as goal

abbrev pub invariant-loop-number : goal.invariant-loop-number
invariant-loop-number l = SoFar (plant_of l.system) (contents_in l.held) l.number l.states l.counts
