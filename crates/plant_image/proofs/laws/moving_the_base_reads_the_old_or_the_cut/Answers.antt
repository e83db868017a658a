use Rattle.plant_image.proofs.KeptCells.{sound_of}
use Rattle.plant_image.proofs.MovedImages.{unmoved_none, unmoved_reads, moved_none, moved_reads}
use Rattle.plant_image.proofs.laws.moving_the_base_reads_the_old_or_the_cut.Goals as goal

pub returns-clause-unmoved : goal.returns-clause-unmoved
returns-clause-unmoved c = λ plant digest bytes before cells none left.
    (unmoved_none plant digest bytes before cells (sound_of plant digest bytes before none) left, unmoved_reads plant digest bytes before cells (sound_of plant digest bytes before none) left)

pub returns-clause-moved : goal.returns-clause-moved
returns-clause-moved c = λ plant digest bytes base before cells none above short left.
    (moved_none plant digest bytes before cells (sound_of plant digest bytes before none) base above short left, moved_reads plant digest bytes before cells (sound_of plant digest bytes before none) base above short left)
