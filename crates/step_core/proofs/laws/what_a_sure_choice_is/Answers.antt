use Rattle.step_core.proofs.OfSure.{sure-choice-of, sure-of}
use Rattle.step_core.proofs.laws.what_a_sure_choice_is.Goals as goal

pub returns : goal.returns
returns c = λ plant parts choice. (sure-choice-of plant parts choice, sure-of plant parts choice)
