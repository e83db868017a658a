use Rattle.plant_for_c.specs.Fires.{IsFireByConnector}
use Rattle.kilnmace_c.specs.Calls.{IsToldAs}
use Rattle.kilnmace_c.specs.Told.{fire_status}
use Rattle.kilnmace_c.proofs.Steps.{told_step_of}
use Rattle.kilnmace_c.proofs.events.kilnmace_raw_fire_connector.Goals as goal

pub returns-clause-event : goal.returns-clause-event
returns-clause-event c = λ marked.
    told_step_of c.fire_connector-answer.result (λ d v w answer. IsFireByConnector d v c.args.connector answer w) fire_status (λ r. IsToldAs r c.tell.result c.args.fired.now c.tell.new.into)
    c.in-Ok.ensures.taken c.deref.ensures c.deref_mut.ensures.value c.put.ensures.held c.fire_connector-answer.ensures c.absent-absent.ensures c.of_fire.ensures c.tell.ensures
