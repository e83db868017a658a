-- Why commands on images end early.
use Rattle.std.specs.Prelude.{◌≢◌, ℕ, if◌then◌else◌, Option}
use Rattle.plant_image.specs.declared.fault.ImageFault.{ImageFault}
use Rattle.plant_image.specs.declared.fault.ImageFault.TheVariants as image
use Rattle.image_commands.specs.Refusals.{IsRefusedBy, is_failure}
use Rattle.image_commands.specs.declared.refusal.ImageRefusal.{ImageRefusal}
use Rattle.image_commands.specs.declared.refusal.ImageRefusal.TheVariants.{Image, Disk}
use Rattle.image_commands.specs.declared.ending.ImageEnding.{ImageEnding}
use Rattle.image_commands.specs.declared.ending.ImageEnding.TheVariants.{Refused, Failed, Unwritten}

-- the exit status of a program that ends so: 1 a refused image, 3 the device, the memory or the output
abbrev pub status_at : ImageEnding → ℕ
status_at (Refused refusal) = if is_failure refusal then 3 else 1
status_at Failed = 3
status_at Unwritten = 3

-- An ending before a run: an image is refused by what is wrong with it, and no run has failed.
abbrev pub IsEndingOf : Option ImageFault → ImageEnding → Type 0
IsEndingOf found (Refused refusal) = IsRefusedBy found refusal
IsEndingOf found Failed = Unit {0}
IsEndingOf found Unwritten = Unit {0}

-- the command runs no events, so that none of them can fail
abbrev pub IsOfNoRun : ImageEnding → Type 0
IsOfNoRun (Refused refusal) = Unit {0}
IsOfNoRun Failed = ⊥
IsOfNoRun Unwritten = Unit {0}

-- A refusal to format a device of so many bytes: it has another size than the image, or the device or the memory failed.
abbrev pub IsRefusedFor : ℕ → ℕ → ImageRefusal → Type 0
IsRefusedFor bytes wanted (Image image.WrongSize) = bytes ≢ wanted
IsRefusedFor bytes wanted Disk = Unit {0}
IsRefusedFor bytes wanted (Image image.Memory) = Unit {0}
IsRefusedFor bytes wanted refusal = ⊥

-- An ending of formatting.
abbrev pub IsEndingOfFormat : ℕ → ℕ → ImageEnding → Type 0
IsEndingOfFormat bytes wanted (Refused refusal) = IsRefusedFor bytes wanted refusal
IsEndingOfFormat bytes wanted Failed = ⊥
IsEndingOfFormat bytes wanted Unwritten = Unit {0}
