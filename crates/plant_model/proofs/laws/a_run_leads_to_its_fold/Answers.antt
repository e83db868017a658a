use Rattle.plant_model.proofs.OnRuns.{run-folds}
use Rattle.plant_model.proofs.laws.a_run_leads_to_its_fold.Goals as goal

pub returns : goal.returns
returns c = λ plant start end cs run. run-folds plant cs start end run
