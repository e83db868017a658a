use Rattle.record_replay.proofs.OverRecords.{replay-behind}
use Rattle.record_replay.proofs.laws.included_records_are_passed_over.Goals as goal

pub returns : goal.returns
returns c = λ a atom saved xs ys p all. replay-behind a atom saved xs ys p all
