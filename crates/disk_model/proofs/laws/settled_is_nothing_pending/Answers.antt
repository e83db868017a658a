use Rattle.disk_model.proofs.LawLemmas.{settled_both}
use Rattle.disk_model.proofs.laws.settled_is_nothing_pending.Goals as goal

pub returns : goal.returns
returns c = settled_both
