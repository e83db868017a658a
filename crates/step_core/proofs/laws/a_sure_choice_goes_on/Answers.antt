use Rattle.step_core.proofs.SureAllowed.{delivered-same, goes-on, leaves-behind}
use Rattle.step_core.proofs.laws.a_sure_choice_goes_on.Goals as goal

pub returns-clause-stays : goal.returns-clause-stays
returns-clause-stays c = λ plant states away choice sure. goes-on plant states away choice sure

pub returns-clause-delivers : goal.returns-clause-delivers
returns-clause-delivers c = λ plant states away choice atom sure. delivered-same plant states away choice sure atom

pub returns-clause-leaves : goal.returns-clause-leaves
returns-clause-leaves c = leaves-behind
