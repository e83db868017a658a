use Rattle.plant_text.proofs.Legal.{text_is_legal}
use Rattle.plant_text.proofs.laws.a_text_that_means_a_plant_is_legal.Goals as goal

pub returns : goal.returns
returns c = text_is_legal
