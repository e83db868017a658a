use Rattle.std.proofs.Common.{◌++◌, ◌∷◌, [], ap, ◌∙◌, arith}
use Rattle.disk_model.specs.DiskState.{DiskState}
use Rattle.plant_core.specs.Plants.{definition_of, view_of}
use Rattle.plant_core.specs.declared.events.Happened.TheVariants.{Ask}
use Rattle.engine_host.specs.Held.{held_by}
use Rattle.engine_host.specs.History.{entry}
use Rattle.engine_host.specs.Views.{front_in}
use Rattle.engine_host.proofs.Kept.{kept_goes_on, kept_rises}
use Rattle.engine_host.proofs.locked.Locked.ask.Goals as goal

pub publish-requires-clause-rises : goal.publish-requires-clause-rises
publish-requires-clause-rises g c =
    let l = c.self.inside in
    kept_rises g.N.Naming.plant g.N.Naming.view g.N.Naming.digest g.N.Naming.keeps g.N.WordNaming.opening (definition_of l.plant) (held_by l.plant l.publisher l.book.total) (Ask c.args.atom c.ask-answer.result) (view_of c.ask-answer.new.self) c.self.invariant c.ask-answer.ensures.event

pub invariant_of-self : goal.invariant_of-self
invariant_of-self g c =
    let l = c.self.inside in
    kept_goes_on g.N.Naming.plant g.N.Naming.view g.N.Naming.digest g.N.Naming.keeps g.N.WordNaming.opening (definition_of l.plant) _ (held_by l.plant l.publisher l.book.total) _ (Ask c.args.atom c.ask-answer.result) c.self.invariant c.ask-answer.ensures.event c.ask-answer.ensures.plant c.ask-answer.ensures.digest (ap (λ (s : DiskState). s.keeps) c.ask-answer.ensures.device) (omega arith) (omega (arith, c.self.invariant.few))
    (c.publish.ensures.history ∙ ap (λ r. l.publisher ++ entry (Ask c.args.atom r) (front_in (view_of c.ask-answer.new.self)) ∷ []) c.copy_of_answer-copy.ensures)
