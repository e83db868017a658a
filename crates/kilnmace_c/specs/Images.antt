-- Texts and images that a variable of C's holds.
use Rattle.std.specs.Prelude.{◌≡◌, ℕ, List, Option, None, Some, Result, Ok, Err, replicate}
use Rattle.plant_model.specs.Plant.{PlantDefinition}
use Rattle.plant_model.specs.System.{plant_of}
use Rattle.plant_text.specs.Meaning.{meaning}
use Rattle.plant_text.specs.Text.{text_of}
use Rattle.queued_disk.specs.QueuedDisk.{held_by}
use Rattle.plant_for_c.specs.Statuses.{number_of}
use Rattle.plant_for_c.specs.Things.{IsBoot, no_image_of}
use Rattle.plant_for_c.specs.declared.refusal.Refusal.{Refusal}
use Rattle.plant_for_c.specs.declared.thing.Thing.{Thing}
use Rattle.plant_for_c.specs.declared.thing.Thing.TheVariants.{Failed, Image, Text}
use Rattle.kilnmace_c.specs.declared.variable.TheConstants.{NOTHING, PLANT}

-- An image of so many zeros is held.
abbrev pub IsImage : Option Thing → ℕ → Type 0
IsImage (Some (Image disk)) bytes = held_by disk ≡ replicate bytes 0
IsImage other bytes = ⊥

-- A text is held that was read from these bytes.
abbrev pub IsReadOf : Option Thing → List ℕ → Type 0
IsReadOf (Some (Text system)) bytes = meaning bytes ≡ Ok (text_of (plant_of system.now))
IsReadOf other bytes = ⊥

-- The status of a boot: 0, or that of its refusal; or why there is no image.
abbrev pub IsBootStatus : Thing → Option (Result Unit Refusal) → ℕ → Type 0
IsBootStatus thing None status = status ≡ number_of (no_image_of thing)
IsBootStatus thing (Some (Ok _)) status = status ≡ 0
IsBootStatus thing (Some (Err refusal)) status = status ≡ number_of refusal.status

-- What is held is booted, or was no image; and if the boot is refused nothing is held after it.
abbrev pub IsHeldBoot : PlantDefinition → List ℕ → Option Thing → Option Thing → ℕ → ℕ → Type 0
IsHeldBoot plant digest None after mark status = (after ≡ None) × (mark ≡ PLANT) × (status ≡ 63)
IsHeldBoot plant digest (Some thing) None mark status = (mark ≡ NOTHING) × (refusal : Refusal) × IsBoot plant digest thing (Some (Err refusal)) Failed × (status ≡ number_of refusal.status)
IsHeldBoot plant digest (Some thing) (Some changed) mark status = (mark ≡ PLANT) × (answer : Option (Result Unit Refusal)) × IsBoot plant digest thing answer changed × IsBootStatus thing answer status
