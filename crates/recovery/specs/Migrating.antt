-- What bringing an image of the first layout over to a new device answers, and what it has made at its end.
use Rattle.std.specs.Prelude.{◌≡◌, ℕ, Bool, true, false, List, Option, None, Result, Ok, Err}
use Rattle.disk_model.specs.DiskState.{DiskState}
use Rattle.plant_model.specs.Plant.{PlantDefinition}
use Rattle.plant_image.specs.Contents.{Contents, counts_of, last_number, states_of}
use Rattle.plant_image.specs.declared.fault.ImageFault.{ImageFault}
use Rattle.recovery.specs.Booting.{IsBootFault}
use Rattle.recovery.specs.Booting as booting
use Rattle.recovery.specs.Writing.{HasWritten}
use Rattle.plant_image.specs.declared.fault.ImageFault.TheVariants as images
use Rattle.recovery.specs.declared.fault.BootFault.{BootFault}
use Rattle.recovery.specs.declared.fault.BootFault.TheVariants as boots
use Rattle.recovery.specs.declared.fault.FormatFault.{FormatFault}
use Rattle.recovery.specs.declared.fault.FormatFault.TheVariants as formats
use Rattle.recovery.specs.declared.fault.MigrateFault.{MigrateFault}
use Rattle.recovery.specs.declared.fault.MigrateFault.TheVariants.{Old, NewSize, NewDisk, Memory}
use Rattle.recovery.specs.declared.fault.MigrateRefused.{MigrateRefused}

-- The device is written afresh, with a ring of so many records, with what the contents of an old image lead to: the state, how often each atom has
-- taken part in it, and the number of the last record.
abbrev pub IsMigrated : PlantDefinition → List ℕ → ℕ → Contents → DiskState → Type 0
IsMigrated plant digest ring c s = HasWritten plant digest ring (states_of plant c) (counts_of plant c) (last_number c) s

-- ---- the answer

-- A fault of the old image is found if this is what is wrong with it, and a fault of the new device if nothing is. That the old device
-- failed, or memory ran out, says nothing of what is wrong.
abbrev pub IsMigrateFault : Option ImageFault → MigrateFault → Type 0
IsMigrateFault found (Old fault) = IsBootFault found fault
IsMigrateFault found NewSize = found ≡ None
IsMigrateFault found NewDisk = found ≡ None
IsMigrateFault found Memory = Unit {0}

-- the old device failed
abbrev pub is_old_disk : MigrateFault → Bool
is_old_disk (Old fault) = booting.is_disk fault
is_old_disk other = false

-- the new device failed
abbrev pub is_new_disk : MigrateFault → Bool
is_new_disk NewDisk = true
is_new_disk other = false

-- the fault of bringing over that a fault of judging the old image is: that memory ran out is no fault of the old device
abbrev pub of_boot : BootFault → MigrateFault
of_boot (boots.Image images.Memory) = Memory
of_boot other = Old other

-- and that a fault of writing the new one is
abbrev pub of_writing : FormatFault → MigrateFault
of_writing formats.WrongSize = NewSize
of_writing formats.Disk = NewDisk
of_writing formats.Memory = Memory

module _ {D1 D2 : Type 0} where
  -- the devices that come back, with an image brought over or not
  abbrev pub old_returned : Result (D1 × D2) (MigrateRefused D1 D2) → D1
  old_returned (Ok pair) = pair.0
  old_returned (Err refused) = refused.old

  abbrev pub new_returned : Result (D1 × D2) (MigrateRefused D1 D2) → D2
  new_returned (Ok pair) = pair.1
  new_returned (Err refused) = refused.new

  -- and which of them failed
  abbrev pub is_old_disk_refusal : Result (D1 × D2) (MigrateRefused D1 D2) → Bool
  is_old_disk_refusal (Ok pair) = false
  is_old_disk_refusal (Err refused) = is_old_disk refused.fault

  abbrev pub is_new_disk_refusal : Result (D1 × D2) (MigrateRefused D1 D2) → Bool
  is_new_disk_refusal (Ok pair) = false
  is_new_disk_refusal (Err refused) = is_new_disk refused.fault
