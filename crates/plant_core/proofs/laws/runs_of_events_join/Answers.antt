use Rattle.plant_core.proofs.EventRuns.{events-join}
use Rattle.plant_core.proofs.laws.runs_of_events_join.Goals as goal

pub returns : goal.returns
returns c = λ plant v u w before behind first second. events-join plant before behind v u w first second
