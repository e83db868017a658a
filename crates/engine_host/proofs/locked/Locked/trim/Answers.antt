use Rattle.std.proofs.Common.{arith}
use Rattle.plant_core.specs.Plants.{definition_of, view_of}
use Rattle.plant_core.specs.declared.events.Happened.TheVariants.{Trim}
use Rattle.engine_host.specs.Held.{held_by}
use Rattle.engine_host.proofs.Kept.{kept_goes_on, kept_rises}
use Rattle.engine_host.proofs.locked.Locked.trim.Goals as goal

pub publish-requires-clause-rises : goal.publish-requires-clause-rises
publish-requires-clause-rises g c =
    let l = c.self.inside in
    kept_rises g.N.Naming.plant g.N.Naming.view g.N.Naming.digest g.N.Naming.keeps g.N.WordNaming.opening (definition_of l.plant) (held_by l.plant l.publisher l.book.total) (Trim c.trim-answer.result) (view_of c.trim-answer.new.self) c.self.invariant c.trim-answer.ensures.event

pub invariant_of-self : goal.invariant_of-self
invariant_of-self g c =
    let l = c.self.inside in
    kept_goes_on g.N.Naming.plant g.N.Naming.view g.N.Naming.digest g.N.Naming.keeps g.N.WordNaming.opening (definition_of l.plant) _ (held_by l.plant l.publisher l.book.total) _ (Trim c.trim-answer.result) c.self.invariant c.trim-answer.ensures.event c.trim-answer.ensures.plant c.trim-answer.ensures.digest c.trim-answer.ensures.counts.keeps (omega arith) (omega (arith, c.self.invariant.few))
    (c.publish.ensures.history)
