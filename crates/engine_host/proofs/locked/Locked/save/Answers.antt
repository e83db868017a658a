use Rattle.std.proofs.Common.{arith, ap}
use Rattle.plant_core.specs.Plants.{definition_of, view_of}
use Rattle.plant_core.specs.declared.events.Happened.TheVariants.{Save}
use Rattle.plant_core.specs.declared.front.Front.{Front}
use Rattle.engine_host.specs.Held.{held_by}
use Rattle.engine_host.proofs.Events.{event_counts}
use Rattle.engine_host.proofs.Kept.{kept_goes_on, kept_rises}
use Rattle.engine_host.proofs.locked.Locked.save.Goals as goal

-- a save fires nothing
pub publish-requires-clause-from : goal.publish-requires-clause-from
publish-requires-clause-from g c =
    let l = c.self.inside in
    omega (arith, event_counts (definition_of l.plant) (view_of l.plant) (Save c.save-answer.result) (view_of c.save-answer.new.self) c.save-answer.ensures.event, c.self.invariant.booked, c.self.invariant.few, ap (λ (f : Front). f.fired) c.self.invariant.opens)

pub publish-requires-clause-to : goal.publish-requires-clause-to
publish-requires-clause-to g c =
    let l = c.self.inside in
    omega (arith, event_counts (definition_of l.plant) (view_of l.plant) (Save c.save-answer.result) (view_of c.save-answer.new.self) c.save-answer.ensures.event, c.self.invariant.booked, c.self.invariant.few, ap (λ (f : Front). f.fired) c.self.invariant.opens)

pub publish-requires-clause-rises : goal.publish-requires-clause-rises
publish-requires-clause-rises g c =
    let l = c.self.inside in
    kept_rises g.N.Naming.plant g.N.Naming.view g.N.Naming.digest g.N.Naming.keeps g.N.WordNaming.opening (definition_of l.plant) (held_by l.plant l.publisher l.book.total) (Save c.save-answer.result) (view_of c.save-answer.new.self) c.self.invariant c.save-answer.ensures.event

pub invariant_of-self : goal.invariant_of-self
invariant_of-self g c =
    let l = c.self.inside in
    kept_goes_on g.N.Naming.plant g.N.Naming.view g.N.Naming.digest g.N.Naming.keeps g.N.WordNaming.opening (definition_of l.plant) _ (held_by l.plant l.publisher l.book.total) _ (Save c.save-answer.result) c.self.invariant c.save-answer.ensures.event c.save-answer.ensures.plant c.save-answer.ensures.digest c.save-answer.ensures.counts.keeps (omega arith) (omega (arith, c.self.invariant.few))
    (c.publish.ensures.history)
