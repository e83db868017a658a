use Rattle.record_replay.proofs.OverRecords.{replay-append}
use Rattle.record_replay.proofs.laws.replay_goes_from_list_to_list.Goals as goal

pub returns : goal.returns
returns c = λ a atom saved xs ys p. replay-append a atom saved xs ys p
