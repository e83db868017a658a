use Rattle.plant_for_c.specs.Puts.{IsPutOf}
use Rattle.kilnmace_c.specs.Calls.{IsStatusOf}
use Rattle.kilnmace_c.specs.Told.{event_status}
use Rattle.kilnmace_c.proofs.Steps.{told_step_of}
use Rattle.kilnmace_c.proofs.events.kilnmace_raw_put.Goals as goal

pub returns-clause-event : goal.returns-clause-event
returns-clause-event c = λ marked.
    told_step_of c.put-answer.result (λ d v w answer. IsPutOf v c.args.atom answer w) event_status (λ r. IsStatusOf r c.status_of.result)
    c.in-Ok.ensures.taken c.deref.ensures c.deref_mut.ensures.value c.put.ensures.held c.put-answer.ensures c.absent-absent.ensures c.of_event.ensures c.status_of.ensures
