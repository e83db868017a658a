use Rattle.plant_model.proofs.OnRuns.{fold-fits, run-fits}
use Rattle.plant_model.proofs.laws.each_state_on_a_run_fits.Goals as goal

pub returns-clause-end : goal.returns-clause-end
returns-clause-end c = λ plant start end cs formed long fits run. run-fits plant formed cs start end long fits run

pub returns-clause-between : goal.returns-clause-between
returns-clause-between c = λ plant start cs formed long fits. fold-fits plant formed cs start long fits
