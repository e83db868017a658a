-- An image that was brought over and booted stands for what the old one stands for, and a refusal says what is wrong with that.
use Rattle.std.proofs.Common.{◌≡◌, ◌∙◌, subst, ℕ, true, List, Option, None}
use Rattle.std.specs.Prelude.{◌+◌, length}
use Rattle.disk_model.specs.DiskState.{DiskState, size_of}
use Rattle.disk_model.specs.Cells.{seen_cells}
use Rattle.disk_model.specs.Moments.{seen_may}
use Rattle.disk_model.specs.declared.cells.TheConstants.{BODY}
use Rattle.plant_model.specs.Plant.{PlantDefinition}
use Rattle.plant_image.specs.Contents.{Contents, contents_of, last_number, states_of}
use Rattle.plant_image.specs.Standing.{StandsFor}
use Rattle.plant_image.specs.declared.fault.ImageFault.{ImageFault}
use Rattle.plant_image.specs.declared.fault.ImageFault.TheVariants as image
use Rattle.plant_core.specs.View.{View}
use Rattle.recovery.specs.Migrating.{IsMigrated, IsMigrateFault}
use Rattle.recovery.specs.declared.fault.MigrateFault.{MigrateFault}
use Rattle.recovery.specs.declared.fault.MigrateFault.TheVariants as migrate
use Rattle.image_commands.specs.Migrations.{IsEndingOfMigrate, StandsForContents, of_migrate, of_new}
use Rattle.image_commands.specs.Runs.{IsBootedFrom, StandsAsRead}
use Rattle.image_commands.specs.declared.refusal.ImageRefusal.{ImageRefusal}
use Rattle.image_commands.specs.declared.refusal.ImageRefusal.TheVariants as refusal
use Rattle.image_commands.specs.declared.migrate_ending.MigrateEnding.TheVariants.{Refused}
use Rattle.image_commands.proofs.Refused.{refused_by_boot}

-- the number of the plant that is booted is the one that was brought over
pub migrated_number : (plant : PlantDefinition) (digest : List ℕ) (ring : ℕ) (c : Contents) (s : DiskState) (v : View) → IsMigrated plant digest ring c s →
    IsBootedFrom plant digest s v → s.keeps ≡ true → v.number ≡ last_number c
migrated_number plant digest ring c s v migrated booted keeps =
    (booted keeps).number ∙ (migrated.stands (seen_cells (BODY + 1) s) (seen_may (BODY + 1) s)).number_is

-- what stands for what was read of a new image stands for what was brought over
pub migrated_stands : (plant : PlantDefinition) (digest : List ℕ) (ring : ℕ) (c : Contents) (old new : DiskState) → IsMigrated plant digest ring c old →
    StandsAsRead plant digest old new → StandsForContents plant digest c new
migrated_stands plant digest ring c old new migrated stands cells may =
    let seen = migrated.stands (seen_cells (BODY + 1) old) (seen_may (BODY + 1) old) in
    subst (λ states. StandsFor plant digest (size_of new) cells states (last_number c)) seen.states_are
    (subst (λ number. StandsFor plant digest (size_of new) cells (states_of plant (contents_of (length plant.atoms) (seen_cells (BODY + 1) old))) number) seen.number_is (stands cells may))

-- a fault of bringing over, as a refusal, is what is wrong with the old image
pub refused_by_migrate : (found : Option ImageFault) (fault : MigrateFault) → IsMigrateFault found fault → IsEndingOfMigrate found (Refused (of_migrate fault))
refused_by_migrate found (migrate.Old fault) is = refused_by_boot found fault is
refused_by_migrate found migrate.NewSize is = is
refused_by_migrate found migrate.NewDisk is = is
refused_by_migrate found migrate.Memory is = tt

-- where the new image is not booted, nothing is wrong with the old one
pub refused_by_new : (found : Option ImageFault) (r : ImageRefusal) → found ≡ None → IsEndingOfMigrate found (Refused (of_new r))
refused_by_new found (refusal.Image image.NotFormatted) none = none
refused_by_new found (refusal.Image image.OtherVersion) none = none
refused_by_new found (refusal.Image image.OtherSystem) none = none
refused_by_new found (refusal.Image image.WrongSize) none = none
refused_by_new found (refusal.Image (image.Damaged cell)) none = none
refused_by_new found (refusal.Image (image.Gap atom)) none = none
refused_by_new found (refusal.Image (image.NotEnabled number atom)) none = none
refused_by_new found refusal.Disk none = none
refused_by_new found (refusal.Image image.Memory) none = tt
