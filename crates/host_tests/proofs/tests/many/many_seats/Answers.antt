use denote.Param.Send.{shr_sync}
use Rattle.std.proofs.Common.{[], ◌∷◌}
use Rattle.plant_model.proofs.Crossing.{closure_sync}
use Rattle.engine_host.proofs.Crossing.{Host-row-sync}
use Rattle.host_tests.proofs.tests.many.many_seats.Goals as goal

pub map_vec-requires-sync-F : goal.map_vec-requires-sync-F
map_vec-requires-sync-F g c κs within =
    closure_sync 4 _ _ (_ ∷ _ ∷ []) (
      shr_sync _ _ _ c.type_bounds.sync-R,
      (
        shr_sync _ _ _ (Host-row-sync _ _ _ g.D.Disk g.N.Naming g.N.WordNaming g.N.Ledger c.type_bounds.send-D c.type_bounds.send-N c.type_bounds.sync-N),
        tt,
      ),
    )
