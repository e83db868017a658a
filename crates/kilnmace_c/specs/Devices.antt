-- How a step of a device is told.
use Rattle.std.specs.Prelude.{◌≡◌, ◌⊎◌, ◌++◌, ◌<◌, min, ℕ, List, length, drop, slice_get, Option, None, Some}
use Rattle.plant_for_c.specs.Statuses.{number_of}
use Rattle.plant_for_c.specs.Things.{absent_of}
use Rattle.plant_for_c.specs.declared.thing.Thing.{Thing}
use Rattle.plant_for_c.specs.declared.thing.Thing.TheVariants.{Image, Plant}
use Rattle.queued_disk.specs.QueuedDisk.{steps_of}
use Rattle.kilnmace_c.specs.declared.devices.DeviceStep.{DeviceStep}
use Rattle.kilnmace_c.specs.declared.devices.TheConstants.{MOST_STEP, NO_STEP, SYNC, WRITE}

-- it is one of the steps: the place and the bytes of a write, or a sync
abbrev pub IsOneOf : List (Option (ℕ × List ℕ)) → Option (ℕ × List ℕ) → Type 0
IsOneOf steps step = (i : ℕ) × (slice_get steps i ≡ Some step)

-- This is told: no step; a sync; or a write, whose bytes stand at the beginning of the room.
abbrev pub IsStepOf : List (Option (ℕ × List ℕ)) → DeviceStep → List ℕ → List ℕ → Type 0
IsStepOf steps step room bytes =
    ((step ≡ record { at = 0; length = 0; kind = NO_STEP }) × (bytes ≡ room))
    ⊎ ((step ≡ record { at = 0; length = 0; kind = SYNC }) × IsOneOf steps None × (bytes ≡ room))
    ⊎ ((written : List ℕ) × (step.kind ≡ WRITE) × (step.length ≡ length written) × IsOneOf steps (Some (step.at, written)) × (bytes ≡ written ++ drop (length written) room))

-- One of the steps writes more bytes than there is room for, or than a step may have.
abbrev pub IsTooLong : List (Option (ℕ × List ℕ)) → List ℕ → Type 0
IsTooLong steps room = (at : ℕ) × (written : List ℕ) × IsOneOf steps (Some (at, written)) × (min (length room) MOST_STEP < length written)

-- So is the next of these steps, if there is room for its bytes: else nothing is.
abbrev pub IsToldStep : List (Option (ℕ × List ℕ)) → ℕ → DeviceStep → DeviceStep → List ℕ → List ℕ → Type 0
IsToldStep steps status had step room bytes =
    ((status ≡ 0) × IsStepOf steps step room bytes) ⊎ ((status ≡ 69) × IsTooLong steps room × (step ≡ had) × (bytes ≡ room))

-- So is a step of the image that is held, or of the plant; where neither is held, the status says why.
abbrev pub IsHeldDevice : Option Thing → ℕ → DeviceStep → DeviceStep → List ℕ → List ℕ → Type 0
IsHeldDevice (Some (Image disk)) status had step room bytes = IsToldStep (steps_of disk) status had step room bytes
IsHeldDevice (Some (Plant p)) status had step room bytes = (steps : List (Option (ℕ × List ℕ))) × IsToldStep steps status had step room bytes
IsHeldDevice (Some other) status had step room bytes = (status ≡ number_of (absent_of other)) × (step ≡ had) × (bytes ≡ room)
IsHeldDevice None status had step room bytes = (status ≡ 63) × (step ≡ had) × (bytes ≡ room)
