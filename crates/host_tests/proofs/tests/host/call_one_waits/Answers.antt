use denote.Param.Send.{shr_send}
use Rattle.std.proofs.Common.{[], ◌∷◌}
use Rattle.plant_model.proofs.Crossing.{closure_send}
use Rattle.engine_host.proofs.Crossing.{Host-row-sync, Seat-row-send}
use Rattle.host_tests.proofs.tests.host.Asked.TheSendSync as asked
use Rattle.host_tests.proofs.tests.host.Held.TheSendSync as held
use Rattle.host_tests.proofs.tests.host.call_one_waits.Goals as goal

pub join-first-requires-send-F : goal.join-first-requires-send-F
join-first-requires-send-F g c κs within =
    closure_send 1 _ _ (_ ∷ _ ∷ _ ∷ _ ∷ _ ∷ []) (
      shr_send _ _ _ c.type_bounds.sync-R,
      (
        shr_send _ _ _ (Host-row-sync _ _ _ g.D.Disk g.N.Naming g.N.WordNaming g.N.Ledger c.type_bounds.send-D c.type_bounds.send-N c.type_bounds.sync-N),
        (Seat-row-send _ g.N.Naming g.N.WordNaming g.N.Ledger c.type_bounds.send-N, (shr_send _ _ _ asked.the_sync, (shr_send _ _ _ held.the_sync, tt))),
      ),
    )
