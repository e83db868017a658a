use Rattle.std.proofs.Common.{arith, is_ok}
use Rattle.plant_core.proofs.EventByEvent.{flush-keeps}
use Rattle.plant_core.specs.Plants.{definition_of, device_of, view_of}
use Rattle.plant_core.specs.declared.events.Happened.TheVariants.{Flush}
use Rattle.engine_host.specs.Held.{held_by}
use Rattle.engine_host.proofs.Kept.{kept_goes_on, kept_rises}
use Rattle.engine_host.proofs.locked.Locked.flush.Goals as goal

pub publish-requires-clause-rises : goal.publish-requires-clause-rises
publish-requires-clause-rises g c =
    let l = c.self.inside in
    kept_rises g.N.Naming.plant g.N.Naming.view g.N.Naming.digest g.N.Naming.keeps g.N.WordNaming.opening (definition_of l.plant) (held_by l.plant l.publisher l.book.total) (Flush c.flush-answer.result) (view_of c.flush-answer.new.self) c.self.invariant c.flush-answer.ensures.event

pub invariant_of-self : goal.invariant_of-self
invariant_of-self g c =
    let l = c.self.inside in
    kept_goes_on g.N.Naming.plant g.N.Naming.view g.N.Naming.digest g.N.Naming.keeps g.N.WordNaming.opening (definition_of l.plant) _ (held_by l.plant l.publisher l.book.total) _ (Flush c.flush-answer.result) c.self.invariant c.flush-answer.ensures.event c.flush-answer.ensures.plant c.flush-answer.ensures.digest (flush-keeps (view_of l.plant) (device_of l.plant) (device_of c.flush-answer.new.self) (is_ok c.flush-answer.result) c.flush-answer.ensures.idle c.flush-answer.ensures.refused c.flush-answer.ensures.counts) (omega arith) (omega (arith, c.self.invariant.few))
    (c.publish.ensures.history)
