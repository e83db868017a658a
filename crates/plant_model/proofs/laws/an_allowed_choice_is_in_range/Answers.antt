use Rattle.plant_model.proofs.OfChoices.{in-range}
use Rattle.plant_model.proofs.laws.an_allowed_choice_is_in_range.Goals as goal

pub returns : goal.returns
returns c = λ plant states choice valid allowed. in-range plant states choice valid allowed
