-- Why images are refused, how that is printed, and what an operator can do.
use Rattle.std.specs.Prelude.{ℕ, Bool, true, false, List, ◌++◌, codes, decimal, Option}
use Rattle.plant_image.specs.Reading.{IsFault}
use Rattle.plant_image.specs.declared.fault.ImageFault.{ImageFault}
use Rattle.plant_image.specs.declared.fault.ImageFault.TheVariants as image
use Rattle.recovery.specs.declared.fault.BootFault.{BootFault}
use Rattle.recovery.specs.declared.fault.BootFault.TheVariants as boot
use Rattle.recovery.specs.declared.fault.FormatFault.{FormatFault}
use Rattle.recovery.specs.declared.fault.FormatFault.TheVariants as format
use Rattle.image_commands.specs.declared.refusal.ImageRefusal.{ImageRefusal}
use Rattle.image_commands.specs.declared.refusal.ImageRefusal.TheVariants.{Image, Disk}

-- the line of a refusal: its number, its name, and in parentheses what it speaks of
abbrev pub refusal_line : ImageRefusal → List ℕ
refusal_line (Image image.NotFormatted) = codes "image: refusal 1 NotFormatted"
refusal_line (Image image.OtherVersion) = codes "image: refusal 2 OtherVersion"
refusal_line (Image image.OtherSystem) = codes "image: refusal 3 OtherSystem"
refusal_line (Image image.WrongSize) = codes "image: refusal 4 WrongSize"
refusal_line (Image (image.Damaged cell)) = codes "image: refusal 5 Damaged(" ++ decimal cell ++ codes ")"
refusal_line (Image (image.Gap atom)) = codes "image: refusal 6 Gap(" ++ decimal atom ++ codes ")"
refusal_line (Image (image.NotEnabled number atom)) = codes "image: refusal 7 NotEnabled(" ++ decimal number ++ codes ", " ++ decimal atom ++ codes ")"
refusal_line Disk = codes "image: refusal 8 Disk"
refusal_line (Image image.Memory) = codes "image: refusal 9 Memory"

-- what a refusal means, and what an operator can do
abbrev pub advice_for : ImageRefusal → List ℕ
advice_for (Image image.NotFormatted) = codes "no whole image begins in the file: keep a copy of it, and look into it by 'bip_run inspect'; to format it destroys what it holds"
advice_for (Image image.OtherVersion) = codes "if an earlier version of this program formatted the image, bring it over to a new one by 'bip_run migrate'; if a later one did, go on with that version"
advice_for (Image image.OtherSystem) = codes "the image was formatted for another plant text: use that very text, byte for byte, or another image"
advice_for (Image image.WrongSize) = codes "the file has not the size of this image: it was cut short, or is for another plant or another --ring; use another file"
advice_for (Image (image.Damaged cell)) = codes "a cell does not hold what was written to it: keep the file, bring the real plant to its first state, and format another image"
advice_for (Image (image.Gap atom)) = codes "firings of an atom are missing: keep the file, bring the real plant to its first state, and format another image"
advice_for (Image (image.NotEnabled number atom)) = codes "a record fires what its atom could not do: keep the file, bring the real plant to its first state, and format another image"
advice_for Disk = codes "the disk failed: see to it, and give the command again"
advice_for (Image image.Memory) = codes "the system has too little memory left: end other programs, and give the command again"

-- the image is not at fault: the device failed, or memory ran out
abbrev pub is_failure : ImageRefusal → Bool
is_failure Disk = true
is_failure (Image image.Memory) = true
is_failure refusal = false

-- the refusal where no plant is booted
abbrev pub of_boot : BootFault → ImageRefusal
of_boot (boot.Image fault) = Image fault
of_boot boot.Disk = Disk

-- the refusal where a device is not formatted
abbrev pub of_format : FormatFault → ImageRefusal
of_format format.WrongSize = Image image.WrongSize
of_format format.Disk = Disk
of_format format.Memory = Image image.Memory

-- A refusal is what is wrong with the image; that the device or the memory failed says nothing of that.
abbrev pub IsRefusedBy : Option ImageFault → ImageRefusal → Type 0
IsRefusedBy found (Image fault) = IsFault found fault
IsRefusedBy found Disk = Unit {0}
