use Rattle.std.proofs.Common.{◌≡◌, ◌+◌, List, true, false, subst}
use Rattle.disk_model.specs.Cells.{Cell, MayBe}
use Rattle.disk_model.specs.DiskState.{size_of}
use Rattle.disk_model.specs.declared.cells.TheConstants.{BODY}
use Rattle.plant_model.specs.Plant.{PlantDefinition}
use Rattle.plant_model.specs.Runs.{IsRun}
use Rattle.plant_core.specs.Plants.{definition_of}
use Rattle.plant_core.specs.Stops.{StandsForAcked, StandsForFront}
use Rattle.engine_host.specs.Held.{Held, held_by}
use Rattle.engine_host.proofs.locked.Locked.stands.Goals as goal

-- what is known of a plant and of what is held
record Stands (plant : PlantDefinition) (h : Held) : Type 0 where
  acked : h.device.keeps ≡ true → h.view.broken ≡ false → (cells : List Cell) → MayBe (BODY + 1) h.device cells → StandsForAcked plant h.digest (size_of h.device) h.view cells
  front : h.device.keeps ≡ true → (cells : List Cell) → MayBe (BODY + 1) h.device cells → StandsForFront plant h.digest (size_of h.device) h.view cells
  run : IsRun plant h.view.acked h.view.tail h.view.present

-- it is known of the host's plant
stands : (g : _) (c : goal.After-tail_is_a_run g) → Stands g.N.Naming.plant c.args.self.now
stands g c =
    let l = c.self.inside in
    subst (Stands g.N.Naming.plant) c.self.view_is (subst (λ (p : PlantDefinition). Stands p (held_by l.plant l.publisher l.book.total)) c.self.invariant.plant_is
    (record { acked = c.stands.ensures; front = c.stands_for_a_front.ensures; run = c.tail_is_a_run.ensures }))

pub returns-clause-acked : goal.returns-clause-acked
returns-clause-acked g c = (stands g c).acked

pub returns-clause-front : goal.returns-clause-front
returns-clause-front g c = (stands g c).front

pub returns-clause-run : goal.returns-clause-run
returns-clause-run g c = (stands g c).run
