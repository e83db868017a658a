use denote.Param.Send.{shr_send}
use Rattle.std.proofs.Common.{[], ◌∷◌}
use Rattle.plant_model.proofs.Crossing.{closure_send}
use Rattle.engine_host.proofs.Crossing.{Host-row-sync, Seat-row-send}
use Rattle.durable_bench.proofs.reading.Job.TheSendSync as jobs
use Rattle.durable_bench.proofs.reading.fire_while_read.Goals as goal

pub join-course-requires-send-F : goal.join-course-requires-send-F
join-course-requires-send-F g c κs within =
    closure_send 1 _ _ (_ ∷ _ ∷ _ ∷ _ ∷ []) (
      shr_send _ _ _ c.type_bounds.sync-R,
      (
        shr_send _ _ _ (Host-row-sync _ _ _ g.D.Disk g.N.Naming g.N.WordNaming g.N.Ledger c.type_bounds.send-D c.type_bounds.send-N c.type_bounds.sync-N),
        (Seat-row-send _ g.N.Naming g.N.WordNaming g.N.Ledger c.type_bounds.send-N, (shr_send _ _ _ jobs.the_sync, tt)),
      ),
    )
