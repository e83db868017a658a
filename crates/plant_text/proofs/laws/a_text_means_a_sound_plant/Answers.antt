use Rattle.std.proofs.Common.{refl}
use Rattle.plant_text.specs.Text.{text_of}
use Rattle.plant_text.proofs.Sound.{meaning_sound}
use Rattle.plant_text.proofs.laws.a_text_means_a_sound_plant.Goals as goal

pub returns : goal.returns
returns c = λ text plant is. meaning_sound text (text_of plant) plant is refl
