-- What formatting leaves of a device, wherever a stop falls, and what it has made at its end.
use Rattle.std.specs.Prelude.{ℕ, ◌*◌, Bool, true, false, List, Result, Ok, Err, length}
use Rattle.disk_model.specs.DiskState.{DiskState}
use Rattle.disk_model.specs.Cells.{Cell}
use Rattle.record_codec.specs.Ring.{device_cells}
use Rattle.plant_model.specs.Plant.{PlantDefinition}
use Rattle.plant_model.specs.Step.{initial_states}
use Rattle.plant_image.specs.Faults.{cell_bytes}
use Rattle.plant_image.specs.Standing.{first_counts}
use Rattle.recovery.specs.Writing.{HasWritten, IsWriting}
use Rattle.recovery.specs.declared.fault.FormatFault.{FormatFault}
use Rattle.recovery.specs.declared.fault.FormatFault.TheVariants as faults
use Rattle.recovery.specs.declared.fault.FormatRefused.{FormatRefused}

-- how many bytes a device has for a plant and a ring of so many records
abbrev pub formatted_size : PlantDefinition → ℕ → ℕ
formatted_size plant ring = cell_bytes * device_cells (length plant.atoms) ring

-- Cells that a stop leaves of a device that is formatted: it is written afresh with the first state of the plant and the number 0.
abbrev pub IsFormatting : PlantDefinition → List ℕ → DiskState → List Cell → Type 0
IsFormatting plant digest old cells = IsWriting plant digest (initial_states plant) 0 old cells

-- The device is freshly formatted for the plant and a ring of so many records: it is written with the first state of the plant, in which no
-- atom has taken part, and the number 0.
abbrev pub HasFormatted : PlantDefinition → List ℕ → ℕ → DiskState → Type 0
HasFormatted plant digest ring s = HasWritten plant digest ring (initial_states plant) (first_counts plant) 0 s

-- ---- the answer

-- the device that comes back, formatted or not
abbrev pub returned : {D : Type 0} → Result D (FormatRefused D) → D
returned (Ok disk) = disk
returned (Err refused) = refused.disk

-- the device failed
abbrev pub is_disk : FormatFault → Bool
is_disk faults.Disk = true
is_disk other = false

-- the answer is that it did
abbrev pub is_disk_error : {V : Type 0} → Result V FormatFault → Bool
is_disk_error (Ok value) = false
is_disk_error (Err fault) = is_disk fault

-- and the device comes back with it
abbrev pub is_disk_refusal : {D : Type 0} → Result D (FormatRefused D) → Bool
is_disk_refusal (Ok disk) = false
is_disk_refusal (Err refused) = is_disk refused.fault
