use Rattle.step_core.proofs.SureAllowed.{sure-allowed}
use Rattle.step_core.proofs.laws.sure_is_allowed.Goals as goal

pub returns : goal.returns
returns c = λ plant states away choice sure. sure-allowed plant states away choice sure
