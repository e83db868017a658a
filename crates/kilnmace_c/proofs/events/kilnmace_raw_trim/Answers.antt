use Rattle.plant_core.specs.Events.{IsTrim}
use Rattle.kilnmace_c.specs.Calls.{IsToldAs}
use Rattle.kilnmace_c.specs.Told.{event_status}
use Rattle.kilnmace_c.proofs.Steps.{told_step_of}
use Rattle.kilnmace_c.proofs.events.kilnmace_raw_trim.Goals as goal

pub returns-clause-event : goal.returns-clause-event
returns-clause-event c = λ marked.
    told_step_of c.trim-answer.result (λ d v w answer. IsTrim v answer w) event_status (λ r. IsToldAs r c.tell.result c.args.base.now c.tell.new.into)
    c.in-Ok.ensures.taken c.deref.ensures c.deref_mut.ensures.value c.put.ensures.held c.trim-answer.ensures c.absent-absent.ensures c.of_event.ensures c.tell.ensures
