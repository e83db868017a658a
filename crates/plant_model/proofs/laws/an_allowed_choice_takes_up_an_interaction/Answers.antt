use Rattle.plant_model.proofs.OfChoices.{taking}
use Rattle.plant_model.proofs.laws.an_allowed_choice_takes_up_an_interaction.Goals as goal

pub returns : goal.returns
returns c = λ plant states choice allowed. taking plant states choice allowed
