use Rattle.plant_model.proofs.OfChoices.{allowed-of, choice-of}
use Rattle.plant_model.proofs.laws.what_an_allowed_choice_is.Goals as goal

pub returns : goal.returns
returns c = λ plant states choice. (choice-of plant states choice, allowed-of plant states choice)
