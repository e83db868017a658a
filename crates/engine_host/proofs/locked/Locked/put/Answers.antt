use Rattle.std.proofs.Common.{◌++◌, ◌∷◌, [], ap, ◌∙◌, arith}
use Rattle.plant_core.specs.Plants.{definition_of, view_of}
use Rattle.plant_core.specs.declared.events.Happened.TheVariants.{Put}
use Rattle.plant_core.specs.Puts.{refusal_in}
use Rattle.engine_host.specs.Held.{held_by}
use Rattle.engine_host.specs.History.{entry}
use Rattle.engine_host.specs.Views.{front_in}
use Rattle.engine_host.proofs.Kept.{kept_goes_on, kept_rises}
use Rattle.engine_host.proofs.locked.Locked.put.Goals as goal

pub publish-requires-clause-rises : goal.publish-requires-clause-rises
publish-requires-clause-rises g c =
    let l = c.self.inside in
    kept_rises g.N.Naming.plant g.N.Naming.view g.N.Naming.digest g.N.Naming.keeps g.N.WordNaming.opening (definition_of l.plant) (held_by l.plant l.publisher l.book.total) (Put c.args.encoded (refusal_in c.put-answer.result)) (view_of c.put-answer.new.self) c.self.invariant c.put-answer.ensures.event

pub invariant_of-self : goal.invariant_of-self
invariant_of-self g c =
    let l = c.self.inside in
    kept_goes_on g.N.Naming.plant g.N.Naming.view g.N.Naming.digest g.N.Naming.keeps g.N.WordNaming.opening (definition_of l.plant) _ (held_by l.plant l.publisher l.book.total) _ (Put c.args.encoded (refusal_in c.put-answer.result)) c.self.invariant c.put-answer.ensures.event c.put-answer.ensures.plant c.put-answer.ensures.digest c.put-answer.ensures.counts.keeps (omega arith) (omega (arith, c.self.invariant.few))
    (c.publish.ensures.history ∙ (ap (λ h. l.publisher ++ entry (Put h c.refusal_of-told.result) (front_in (view_of c.put-answer.new.self)) ∷ []) (c.to_saved-handed.ensures ∙ c.parcel.ensures) ∙ ap (λ r. l.publisher ++ entry (Put c.args.encoded r) (front_in (view_of c.put-answer.new.self)) ∷ []) c.refusal_of-told.ensures))
