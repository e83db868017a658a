use Rattle.record_replay.proofs.OverRecords.{replay-fits, replay-grows}
use Rattle.record_replay.proofs.laws.replay_keeps_to_its_atom.Goals as goal

pub returns-clause-fits : goal.returns-clause-fits
returns-clause-fits c = λ a atom saved rs p q formed fits taken. replay-fits a atom saved rs p q formed fits taken

pub returns-clause-count : goal.returns-clause-count
returns-clause-count c = λ a atom saved rs p q taken. replay-grows a atom saved rs p q taken
