use Rattle.plant_core.proofs.EventRuns.{events-ack, events-lead}
use Rattle.plant_core.proofs.laws.what_events_acknowledge_is_a_front.Goals as goal

pub returns-clause-acked : goal.returns-clause-acked
returns-clause-acked c = λ plant v w hs leads run. events-ack plant hs v w leads run

pub returns-clause-leads : goal.returns-clause-leads
returns-clause-leads c = λ plant v w hs leads run. events-lead plant hs v w leads run
