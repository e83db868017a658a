-- What a call does to what C holds.
use Rattle.std.specs.Prelude.{◌≡◌, ◌+◌, ◌<◌, ◌≤◌, ℕ, List, Bool, true, false, length, Option, None, Some, Result, Ok, Err}
use Rattle.std.specs.Borrow.{Bor}
use Rattle.disk_model.specs.DiskState.{overwritten}
use Rattle.plant_model.specs.declared.system.System.{System}
use Rattle.plant_model.specs.Plant.{PlantDefinition}
use Rattle.plant_core.specs.Plants.{definition_of, device_of, text_digest, view_of}
use Rattle.plant_core.specs.View.{View}
use Rattle.queued_disk.specs.QueuedDisk.{held_by, state_of}
use Rattle.queued_disk.specs.declared.disk.QueuedDisk.{QueuedDisk}
use Rattle.plant_for_c.specs.Images.{IsFormatted}
use Rattle.plant_for_c.specs.declared.refusal.Refusal.{Refusal}
use Rattle.plant_for_c.specs.declared.status.Status.{Status}
use Rattle.plant_for_c.specs.declared.status.Status.TheVariants as status
use Rattle.plant_for_c.specs.declared.thing.Thing.{Thing}
use Rattle.plant_for_c.specs.declared.thing.Thing.TheVariants.{Text, Image, Plant, Failed}

-- why no plant is held: the device failed, or it is something else
abbrev pub absent_of : Thing → Status
absent_of (Text system) = status.NoHandle
absent_of (Image disk) = status.NoHandle
absent_of (Plant p) = status.Broken
absent_of Failed = status.Broken

-- why no image is held: it is a plant by now, the device failed, or it is something else
abbrev pub no_image_of : Thing → Status
no_image_of (Text system) = status.NoHandle
no_image_of (Image disk) = status.NoHandle
no_image_of (Plant p) = status.AlreadyOpen
no_image_of Failed = status.Broken

-- This is the system of the text, or none where no text is held.
abbrev pub IsTextOf : Thing → Option (Bor System) → Type 0
IsTextOf (Text system) found = found ≡ Some system
IsTextOf other found = found ≡ None

-- This is the device of the image; or one that shows what the plant's does; or none where no device is held.
abbrev pub IsDeviceOf : Thing → Option (Bor QueuedDisk) → Type 0
IsDeviceOf (Image disk) (Some found) = found.now ≡ disk
IsDeviceOf (Image disk) None = ⊥
IsDeviceOf (Plant p) (Some found) = state_of found.now ≡ device_of p
IsDeviceOf (Plant p) None = ⊥
IsDeviceOf other found = found ≡ None

-- If it is a durable plant, this holds of its system and of its view; and else that.
abbrev pub IsLook : Thing → Type 0 → (PlantDefinition → View → Type 0) → Type 0
IsLook (Plant p) absent told = told (definition_of p) (view_of p)
IsLook other absent told = absent

-- If it is a durable plant it stays one, of the same text, and this holds of its system and of its views before and after. Anything else stays as it is, and that holds.
abbrev pub IsStep : Thing → Thing → Type 0 → (PlantDefinition → View → View → Type 0) → Type 0
IsStep (Plant p) (Plant q) absent told = (definition_of q ≡ definition_of p) × (text_digest q ≡ text_digest p) × told (definition_of p) (view_of p) (view_of q)
IsStep (Plant p) other absent told = ⊥
IsStep other after absent told = (after ≡ other) × absent

-- An image takes over these bytes from a place on, if it has all these places. Anything else stays as it is.
abbrev pub IsFill : Thing → ℕ → List ℕ → Option Bool → Thing → Type 0
IsFill (Image disk) at bytes (Some true) (Image filled) = (at + length bytes ≤ length (held_by disk)) × (held_by filled ≡ overwritten at bytes (held_by disk))
IsFill (Image disk) at bytes (Some false) (Image kept) = (length (held_by disk) < at + length bytes) × (held_by kept ≡ held_by disk)
IsFill (Image disk) at bytes answer after = ⊥
IsFill other at bytes answer after = (answer ≡ None) × (after ≡ other)

-- An image is formatted, or refused as the status says, and stays an image. Anything else stays as it is.
abbrev pub IsFormat : PlantDefinition → ℕ → Thing → Option (Result Unit Status) → Thing → Type 0
IsFormat plant ring (Image disk) (Some answer) (Image formatted) = IsFormatted plant ring (length (held_by disk)) answer
IsFormat plant ring (Image disk) answer after = ⊥
IsFormat plant ring other answer after = (answer ≡ None) × (after ≡ other)

-- An image becomes the plant of this system, or is dropped. Anything else stays as it is.
abbrev pub IsBoot : PlantDefinition → List ℕ → Thing → Option (Result Unit Refusal) → Thing → Type 0
IsBoot plant digest (Image disk) (Some (Ok _)) (Plant p) = (definition_of p ≡ plant) × (text_digest p ≡ digest)
IsBoot plant digest (Image disk) (Some (Err refusal)) after = after ≡ Failed
IsBoot plant digest (Image disk) answer after = ⊥
IsBoot plant digest other answer after = (answer ≡ None) × (after ≡ other)
