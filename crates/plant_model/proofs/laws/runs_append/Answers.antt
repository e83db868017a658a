use Rattle.plant_model.proofs.OnRuns.{runs-cut, runs-join}
use Rattle.plant_model.proofs.laws.runs_append.Goals as goal

pub returns-clause-joined : goal.returns-clause-joined
returns-clause-joined c = λ plant start between end xs ys first second. runs-join plant xs ys start between end first second

pub returns-clause-cut : goal.returns-clause-cut
returns-clause-cut c = λ plant start end xs ys run. runs-cut plant xs ys start end run
