use Rattle.plant_core.proofs.EventRuns.{events-run}
use Rattle.plant_core.proofs.laws.what_events_fire_is_a_run.Goals as goal

pub returns : goal.returns
returns c = λ plant v w hs run. events-run plant hs v w run
