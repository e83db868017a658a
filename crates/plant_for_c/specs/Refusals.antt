-- The statuses of what the engine, the image, the file and the text refuse.
use Rattle.std.specs.Prelude.{◌≡◌, ◌≢◌, ℕ, List, Err}
use Rattle.plant_core.specs.declared.refused.Refused.{Refused}
use Rattle.plant_core.specs.declared.refused.Refused.TheVariants as plant
use Rattle.plant_image.specs.declared.fault.ImageFault.{ImageFault}
use Rattle.plant_image.specs.declared.fault.ImageFault.TheVariants as image
use Rattle.plant_text.specs.Fault.{number_of}
use Rattle.plant_text.specs.Meaning.{meaning}
use Rattle.plant_text.specs.declared.fault.Fault.TheVariants as text
use Rattle.plant_text.specs.declared.fault.Fault.{Fault}
use Rattle.plant_text.specs.declared.fault.PlantFault.{PlantFault}
use Rattle.recovery.specs.declared.fault.BootFault.{BootFault}
use Rattle.recovery.specs.declared.fault.BootFault.TheVariants as boot
use Rattle.recovery.specs.declared.fault.FormatFault.{FormatFault}
use Rattle.recovery.specs.declared.fault.FormatFault.TheVariants as format
use Rattle.plant_for_c.specs.declared.refusal.Refusal.{Refusal}
use Rattle.plant_for_c.specs.declared.status.Status.{Status}
use Rattle.plant_for_c.specs.declared.status.Status.TheVariants as status

-- why a plant refuses an event; that an atom is not there is that there is no such
abbrev pub of_plant : Refused → Status
of_plant plant.Stuck = status.Stuck
of_plant plant.Busy = status.Busy
of_plant plant.TailFull = status.TailFull
of_plant plant.RingFull = status.RingFull
of_plant plant.Spent = status.Spent
of_plant (plant.Away atom) = status.Away
of_plant (plant.Ahead atom) = status.Ahead
of_plant plant.Stranger = status.NoSuch
of_plant plant.NothingNew = status.NothingNew
of_plant plant.Disk = status.Disk
of_plant plant.Broken = status.Broken
of_plant plant.Values = status.Values

-- why an image is not formatted
abbrev pub of_format : FormatFault → Status
of_format format.WrongSize = status.ImageWrongSize
of_format format.Disk = status.ImageDisk
of_format format.Memory = status.Memory

-- a status with two numbers
abbrev pub refusal_with : Status → ℕ → ℕ → Refusal
refusal_with s first second = record { status = s; first = first; second = second }

-- a status of which nothing more is told
abbrev pub plain : Status → Refusal
plain s = refusal_with s 0 0

-- why an image stands for no state of a plant: of a damage the cell is told, of a gap the atom, of a firing that could not be the record and the atom
abbrev pub of_image : ImageFault → Refusal
of_image image.NotFormatted = plain status.ImageNotFormatted
of_image image.OtherVersion = plain status.ImageOtherVersion
of_image image.OtherSystem = plain status.ImageOtherPlant
of_image image.WrongSize = plain status.ImageWrongSize
of_image (image.Damaged cell) = refusal_with status.ImageDamaged cell 0
of_image (image.Gap atom) = refusal_with status.ImageGap atom 0
of_image (image.NotEnabled number atom) = refusal_with status.ImageNotEnabled number atom
of_image image.Memory = plain status.Memory

-- why no plant is booted
abbrev pub of_boot : BootFault → Refusal
of_boot (boot.Image fault) = of_image fault
of_boot boot.Disk = plain status.ImageDisk

-- why a text with a fault at a line is no plant: the line is told, and the number of the fault; that memory ran out is no fault of the text
abbrev pub of_fault : ℕ → Fault → Refusal
of_fault line text.Memory = plain status.Memory
of_fault line fault = refusal_with status.NoPlant line (number_of fault)

-- the same of a text
abbrev pub of_text : PlantFault → Refusal
of_text told = of_fault told.line told.fault

-- A refusal of a text: the first fault that its meaning has, with its line; or that memory ran out.
abbrev pub IsTextRefusal : List ℕ → Refusal → Type 0
IsTextRefusal text refusal = refusal ≢ plain status.Memory → (told : PlantFault) × (meaning text ≡ Err told) × (refusal ≡ of_text told)
