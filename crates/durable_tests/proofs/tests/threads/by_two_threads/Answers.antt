use denote.Param.Send.{shr_send}
use Rattle.std.proofs.Common.{[], ◌∷◌}
use Rattle.plant_core.proofs.Crossing.{Plant-row-send}
use Rattle.plant_model.proofs.Crossing.{closure_send, lock_sync}
use Rattle.durable_tests.proofs.tests.threads.by_two_threads.Goals as goal

pub join-requires-send-F : goal.join-requires-send-F
join-requires-send-F g c κs within =
    closure_send 1 _ _ (_ ∷ _ ∷ []) (shr_send _ _ _ c.type_bounds.sync-R, (shr_send _ _ _ (lock_sync _ (Plant-row-send _ _ g.D.Disk c.type_bounds.send-D)), tt))
