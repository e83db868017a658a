use Rattle.record_replay.proofs.OnRuns.{run-leads-on}
use Rattle.record_replay.proofs.laws.the_records_of_a_run_lead_on.Goals as goal

pub returns : goal.returns
returns c = λ plant start end counts n cs atom saved a s e rs p run its_atom counted its_state its_end from there.
    run-leads-on plant atom a its_atom start end counts n cs saved s e rs p run counted its_state its_end from there
