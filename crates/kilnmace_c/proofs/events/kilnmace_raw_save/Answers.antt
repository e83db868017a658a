use Rattle.plant_core.specs.Events.{IsSave}
use Rattle.kilnmace_c.specs.Calls.{IsToldAs}
use Rattle.kilnmace_c.specs.Told.{save_status}
use Rattle.kilnmace_c.proofs.Steps.{told_step_of}
use Rattle.kilnmace_c.proofs.events.kilnmace_raw_save.Goals as goal

pub returns-clause-event : goal.returns-clause-event
returns-clause-event c = λ marked.
    told_step_of c.save-answer.result (λ d v w answer. IsSave v answer w) save_status (λ r. IsToldAs r c.tell.result c.args.atoms.now c.tell.new.into)
    c.in-Ok.ensures.taken c.deref.ensures c.deref_mut.ensures.value c.put.ensures.held c.save-answer.ensures c.absent-absent.ensures c.of_save.ensures c.tell.ensures
