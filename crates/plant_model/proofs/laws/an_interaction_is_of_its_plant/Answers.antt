use Rattle.plant_model.proofs.OfInteractions.{interaction-of}
use Rattle.plant_model.proofs.laws.an_interaction_is_of_its_plant.Goals as goal

pub returns : goal.returns
returns c = λ plant i valid at. interaction-of plant valid i at
