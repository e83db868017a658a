-- Bringing an image of the first layout over to a new one: what is printed, why it ends early, and what the new image stands for.
use Rattle.std.specs.Prelude.{◌≡◌, ℕ, ◌+◌, List, ◌++◌, codes, decimal, if◌then◌else◌, Option, None}
use Rattle.plant_model.specs.Plant.{PlantDefinition}
use Rattle.disk_model.specs.DiskState.{DiskState, size_of}
use Rattle.disk_model.specs.Cells.{Cell, MayBe, seen_cells}
use Rattle.disk_model.specs.declared.cells.TheConstants.{BODY, FIRST_BODY}
use Rattle.plant_image.specs.Contents.{Contents, last_number, states_of}
use Rattle.plant_image.specs.Standing.{StandsFor}
use Rattle.plant_image.specs.declared.fault.ImageFault.{ImageFault}
use Rattle.plant_image.specs.declared.fault.ImageFault.TheVariants as image
use Rattle.recovery.specs.OldImage.{old_contents, old_fault_of}
use Rattle.recovery.specs.declared.fault.MigrateFault.{MigrateFault}
use Rattle.recovery.specs.declared.fault.MigrateFault.TheVariants as migrate
use Rattle.image_commands.specs.Refusals.{IsRefusedBy, advice_for, is_failure, of_boot, refusal_line}
use Rattle.image_commands.specs.declared.refusal.ImageRefusal.{ImageRefusal}
use Rattle.image_commands.specs.declared.refusal.ImageRefusal.TheVariants as refusal
use Rattle.image_commands.specs.declared.migrate_ending.MigrateRefusal.{MigrateRefusal}
use Rattle.image_commands.specs.declared.migrate_ending.MigrateRefusal.TheVariants.{Image, NewSize, NewDisk}
use Rattle.image_commands.specs.declared.migrate_ending.MigrateEnding.{MigrateEnding}
use Rattle.image_commands.specs.declared.migrate_ending.MigrateEnding.TheVariants.{Refused, Unwritten}

-- ---- what is printed

-- the number of the last record
abbrev pub migrated_line : ℕ → List ℕ
migrated_line number = codes "migrated " ++ decimal number ++ codes "\n"

-- the line of a refusal: the old image has that of any image
abbrev pub migrate_line : MigrateRefusal → List ℕ
migrate_line (Image refusal) = refusal_line refusal
migrate_line NewSize = codes "new: refusal 2 NewSize"
migrate_line NewDisk = codes "new: refusal 3 NewDisk"

-- what the refusal of an old image means, and what an operator can do
abbrev pub old_advice : ImageRefusal → List ℕ
old_advice (refusal.Image image.OtherVersion) = codes "the old image is of no earlier version: go on with it as it is, or with the later version that formatted it"
old_advice other = advice_for other

-- the same of any refusal
abbrev pub migrate_advice : MigrateRefusal → List ℕ
migrate_advice (Image refusal) = old_advice refusal
migrate_advice NewSize = codes "the new file is there already, and has not the size that the plant and --ring ask for: name a file that is not there"
migrate_advice NewDisk = codes "the disk of the new image failed, and the old image is as it was: see to the disk, and give the command again"

-- the exit status of a program that ends so: 1 a refused image or new file, 3 the device, the memory or the output
abbrev pub migrate_status : MigrateEnding → ℕ
migrate_status (Refused (Image refusal)) = if is_failure refusal then 3 else 1
migrate_status (Refused NewSize) = 1
migrate_status (Refused NewDisk) = 3
migrate_status Unwritten = 3

-- ---- why it ends early

-- the refusal where no image is brought over
abbrev pub of_migrate : MigrateFault → MigrateRefusal
of_migrate (migrate.Old fault) = Image (of_boot fault)
of_migrate migrate.NewSize = NewSize
of_migrate migrate.NewDisk = NewDisk
of_migrate migrate.Memory = Image (refusal.Image image.Memory)

-- the refusal where the new image is not booted: its device does not give back what was written, or memory ran out
abbrev pub of_new : ImageRefusal → MigrateRefusal
of_new (refusal.Image image.Memory) = Image (refusal.Image image.Memory)
of_new other = NewDisk

-- An ending: the old image is refused by what is wrong with it, and nothing is wrong with it at any other.
abbrev pub IsEndingOfMigrate : Option ImageFault → MigrateEnding → Type 0
IsEndingOfMigrate found (Refused (Image refusal)) = IsRefusedBy found refusal
IsEndingOfMigrate found (Refused NewSize) = found ≡ None
IsEndingOfMigrate found (Refused NewDisk) = found ≡ None
IsEndingOfMigrate found Unwritten = found ≡ None

-- ---- the images

-- what is wrong with the image of the first layout that a device holds
abbrev pub fault_of_old : PlantDefinition → List ℕ → DiskState → Option ImageFault
fault_of_old plant digest s = old_fault_of plant digest (size_of s) (seen_cells (FIRST_BODY + 1) s)

-- what such an image holds
abbrev pub held_by_old : PlantDefinition → DiskState → Contents
held_by_old plant s = old_contents plant (seen_cells (FIRST_BODY + 1) s)

-- Whatever a stop leaves of the device stands for what these contents lead to: the same state of the plant, and the same number.
abbrev pub StandsForContents : PlantDefinition → List ℕ → Contents → DiskState → Type 0
StandsForContents plant digest c s = (cells : List Cell) → MayBe (BODY + 1) s cells →
    StandsFor plant digest (size_of s) cells (states_of plant c) (last_number c)
