use Rattle.record_replay.proofs.OnRuns.{run-replays}
use Rattle.record_replay.proofs.laws.mixed_counts.Goals as goal

pub returns : goal.returns
returns c = λ plant start end counts n xs ys atom a s e run its_atom counted its_state its_end.
    run-replays plant atom a its_atom start end counts n xs ys s e run counted its_state its_end
