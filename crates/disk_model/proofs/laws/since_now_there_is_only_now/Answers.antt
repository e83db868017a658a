use Rattle.disk_model.specs.Moments.{left_now}
use Rattle.disk_model.proofs.laws.since_now_there_is_only_now.Goals as goal

pub returns : goal.returns
returns c = left_now
