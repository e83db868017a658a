use Rattle.plant_text.proofs.OnePlant.{one_meaning}
use Rattle.plant_text.proofs.laws.a_text_means_one_plant.Goals as goal

pub returns : goal.returns
returns c = one_meaning
