use Rattle.std.proofs.Common.{◌++◌, ◌∷◌, [], ap, ◌∙◌, subst, arith}
use Rattle.plant_model.specs.Plant.{PlantDefinition}
use Rattle.step_core.specs.Job.{job_done}
use Rattle.disk_model.specs.DiskState.{DiskState}
use Rattle.plant_core.specs.Backs.{refusal_in}
use Rattle.plant_core.specs.Events.{IsEvent, IsReturned}
use Rattle.plant_core.specs.Plants.{definition_of, view_of}
use Rattle.plant_core.specs.declared.events.Happened.TheVariants.{Back}
use Rattle.engine_host.specs.Held.{held_by}
use Rattle.engine_host.specs.History.{entry}
use Rattle.engine_host.specs.Views.{front_in}
use Rattle.engine_host.proofs.Kept.{kept_goes_on, kept_rises}
use Rattle.engine_host.proofs.locked.Locked.back.Goals as goal

pub publish-requires-clause-rises : goal.publish-requires-clause-rises
publish-requires-clause-rises g c =
    let l = c.self.inside in
    kept_rises g.N.Naming.plant g.N.Naming.view g.N.Naming.digest g.N.Naming.keeps g.N.WordNaming.opening (definition_of l.plant) (held_by l.plant l.publisher l.book.total) (Back c.returned-returned.result (refusal_in c.back-answer.result)) (view_of c.back-answer.new.self) c.self.invariant
    (job_done c.args.done, c.returned-returned.ensures, c.back-answer.ensures.event)

pub invariant_of-self : goal.invariant_of-self
invariant_of-self g c =
    let l = c.self.inside in
    kept_goes_on g.N.Naming.plant g.N.Naming.view g.N.Naming.digest g.N.Naming.keeps g.N.WordNaming.opening (definition_of l.plant) _ (held_by l.plant l.publisher l.book.total) _ (Back c.returned-returned.result (refusal_in c.back-answer.result)) c.self.invariant
    (job_done c.args.done, c.returned-returned.ensures, c.back-answer.ensures.event)
    c.back-answer.ensures.plant c.back-answer.ensures.digest (ap (λ (s : DiskState). s.keeps) c.back-answer.ensures.device) (omega arith) (omega (arith, c.self.invariant.few))
    (c.publish.ensures.history ∙ ap (λ r. l.publisher ++ entry (Back c.returned-returned.result r) (front_in (view_of c.back-answer.new.self)) ∷ []) c.back_refusal_of-told.ensures)
