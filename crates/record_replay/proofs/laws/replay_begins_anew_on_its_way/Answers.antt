use Rattle.record_replay.proofs.OverRecords.{replay-anew}
use Rattle.record_replay.proofs.laws.replay_begins_anew_on_its_way.Goals as goal

pub returns : goal.returns
returns c = λ a atom saved xs ys p q e from first whole. replay-anew a atom saved xs ys p q e from first whole
