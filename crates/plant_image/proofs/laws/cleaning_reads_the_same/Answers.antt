use Rattle.plant_image.proofs.CleanedImages.{cleaned_none, cleaned_same}
use Rattle.plant_image.proofs.KeptCells.{sound_of}
use Rattle.plant_image.proofs.laws.cleaning_reads_the_same.Goals as goal

pub returns : goal.returns
returns c = λ plant digest bytes before cells none cleaned.
    (cleaned_none plant digest bytes before cells (sound_of plant digest bytes before none) cleaned, cleaned_same plant digest bytes before cells (sound_of plant digest bytes before none) cleaned)
