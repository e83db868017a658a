-- Why a state is not stored.
use Rattle.std.specs.Prelude.{◌≡◌, ◌≢◌, ℕ, ◌<◌, true, Option, None, Some, Result, Ok, Err}
use Rattle.record_codec.specs.Saved.{SavedFields}
use Rattle.record_replay.specs.Records.{count_of}
use Rattle.plant_core.specs.Events.{IsTaken}
use Rattle.plant_core.specs.Snapshots.{held_at}
use Rattle.plant_core.specs.View.{View}
use Rattle.plant_core.specs.declared.refused.PutRefused.{PutRefused}
use Rattle.plant_core.specs.declared.refused.Refused.{Refused}
use Rattle.plant_core.specs.declared.refused.Refused.TheVariants.{Ahead, Stranger, Broken}

-- the answer without the state that comes back
abbrev pub refusal_in : Result ℕ PutRefused → Result ℕ Refused
refusal_in (Ok count) = Ok count
refusal_in (Err refused) = Err refused.refused

-- This is why a plant with this view does not take this state, or it takes it.
abbrev pub IsRefusedPut : View → SavedFields → Option Refused → Type 0
IsRefusedPut v saved None = IsTaken v saved
IsRefusedPut v saved (Some Broken) = v.broken ≡ true
IsRefusedPut v saved (Some Stranger) = (v.broken ≢ true) × (held_at v.kept saved.atom ≢ Some saved)
IsRefusedPut v saved (Some (Ahead atom)) =
    (v.broken ≢ true) × (held_at v.kept saved.atom ≡ Some saved) × (count_of v.acked_counts saved.atom < saved.count) × (atom ≡ saved.atom)
IsRefusedPut v saved (Some other) = ⊥
