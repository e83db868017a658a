use Rattle.plant_image.proofs.KeptCells.{sound_of}
use Rattle.plant_image.proofs.StoredImages.{stored_image_none, stored_reads}
use Rattle.plant_image.proofs.laws.storing_reads_the_old_or_the_new.Goals as goal

pub returns : goal.returns
returns c = λ plant digest bytes slot a saved before cells none within at passes free left.
    (stored_image_none plant digest bytes slot a saved before cells (sound_of plant digest bytes before none) within at passes free left, stored_reads plant digest bytes slot a saved before cells (sound_of plant digest bytes before none) within at passes free left)
