use Rattle.plant_image.proofs.AppendedImages.{appended_none, appended_reads}
use Rattle.plant_image.proofs.KeptCells.{sound_of}
use Rattle.plant_image.proofs.laws.appending_reads_on.Goals as goal

pub returns : goal.returns
returns c = λ plant digest bytes news before cells none fit left.
    (left.count, left.within, appended_none plant digest bytes news before cells (sound_of plant digest bytes before none) fit left, appended_reads plant digest bytes news before cells (sound_of plant digest bytes before none) fit left)
