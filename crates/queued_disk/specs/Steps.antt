-- The steps that are still to be done to a device, or are taken.
use Rattle.std.specs.Prelude.{◌≡◌, ◌⊎◌, ◌++◌, ◌∷◌, [], ◌-◌, ℕ, if◌then◌else◌, List, map, take, drop, slice_get, Option, Some, None}
use Rattle.queued_disk.specs.declared.queue.Entry.{Entry}
use Rattle.queued_disk.specs.declared.queue.Queue.{Queue}
use Rattle.queued_disk.specs.declared.queue.Step.{Step}
use Rattle.queued_disk.specs.declared.queue.Step.TheVariants as told

-- the step of an entry: the place and the bytes of a write, or nothing for a sync
abbrev pub step_of : List ℕ → Entry → Option (ℕ × List ℕ)
step_of bytes e = if e.is_sync then None else Some (e.at, take (e.end - e.first) (drop e.first bytes))

-- all steps, in their order
abbrev pub steps_in : Queue → List (Option (ℕ × List ℕ))
steps_in q = map (step_of q.bytes.items) q.entries.items

-- The step comes behind the others; or alone, once all others were taken.
abbrev pub IsAdded : Option (ℕ × List ℕ) → List (Option (ℕ × List ℕ)) → List (Option (ℕ × List ℕ)) → Type 0
IsAdded step before after = (after ≡ before ++ step ∷ []) ⊎ (after ≡ step ∷ [])

-- how a step is told
abbrev pub told_as : Step → Option (ℕ × List ℕ)
told_as (told.Write at bytes) = Some (at, bytes.now)
told_as told.Sync = None

-- It is one of these steps that is told.
abbrev pub IsToldOf : List (Option (ℕ × List ℕ)) → Step → Type 0
IsToldOf steps told = (i : ℕ) × (slice_get steps i ≡ Some (told_as told))
