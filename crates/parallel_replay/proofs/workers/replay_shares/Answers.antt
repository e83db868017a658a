use denote.Param.Send.{IsSync, sendable, shr_sync}
use denote.Struct.Field.{u64-field}
use Rattle.std.proofs.Common.{[], ◌∷◌}
use Rattle.std.proofs.Crossing.{Vec-sync, crosses}
use Rattle.std.specs.contracts.alloc.Global as global
use Rattle.plant_image.specs.contracts.standing.Held as held
use Rattle.plant_model.proofs.Crossing.{System-sync, closure_sync}
use Rattle.plant_model.specs.contracts.system.System as system
use Rattle.parallel_replay.proofs.workers.replay_shares.Goals as goal

Global-sync : IsSync global.the_row
Global-sync = search (sendable, crosses) depth 20

Held-sync : IsSync held.the_row
Held-sync = search (sendable, crosses) depth 40

System-row-sync : IsSync system.the_row
System-row-sync = search (System-sync, sendable)

Number-sync : IsSync (u64-field).row
Number-sync = search (sendable, crosses) depth 20

pub map_indices-requires-sync-F : goal.map_indices-requires-sync-F
map_indices-requires-sync-F g c κs within =
    closure_sync 3 _ _ (_ ∷ _ ∷ _ ∷ _ ∷ _ ∷ _ ∷ []) (
      shr_sync _ _ _ Global-sync,
      (
        shr_sync _ _ _ System-row-sync,
        (
          shr_sync _ _ _ Held-sync,
          (shr_sync _ _ _ (Vec-sync _ Number-sync), (shr_sync _ _ _ Number-sync, (shr_sync _ _ _ c.type_bounds.sync-T, tt))),
        ),
      ),
    )
