use Rattle.step_core.proofs.NoneAway.{choices-same}
use Rattle.step_core.proofs.laws.with_none_away_sure_is_allowed.Goals as goal

pub returns : goal.returns
returns c = choices-same
