use Rattle.disk_model.proofs.LawLemmas.{closed_both}
use Rattle.disk_model.proofs.laws.closed_is_shut_and_not_pending.Goals as goal

pub returns : goal.returns
returns c = closed_both
