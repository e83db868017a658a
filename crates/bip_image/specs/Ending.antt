-- What the program prints if it ends early, and its exit status.
use Rattle.std.specs.Prelude.{ℕ, if◌then◌else◌, List, [], ◌++◌, codes, decimal, Result, Ok, Err}
use Rattle.file_disk.specs.Messages.{message_of}
use Rattle.file_disk.specs.declared.fault.FileFault.{FileFault}
use Rattle.file_disk.specs.declared.fault.FileFault.TheVariants as file
use Rattle.script_lines.specs.Message.{line_message}
use Rattle.image_commands.specs.Refusals.{advice_for, refusal_line}
use Rattle.image_commands.specs.Endings as endings
use Rattle.image_commands.specs.Migrations.{migrate_advice, migrate_line, migrate_status}
use Rattle.image_commands.specs.declared.ending.ImageEnding.{ImageEnding}
use Rattle.image_commands.specs.declared.ending.ImageEnding.TheVariants as image
use Rattle.image_commands.specs.declared.migrate_ending.MigrateEnding.{MigrateEnding}
use Rattle.image_commands.specs.declared.migrate_ending.MigrateEnding.TheVariants as migrating
use Rattle.image_commands.specs.declared.exploring.ExploreEnding.{ExploreEnding}
use Rattle.image_commands.specs.declared.exploring.ExploreEnding.TheVariants as exploring
use Rattle.worker_runs.specs.declared.ending.WorkersEnding.{WorkersEnding}
use Rattle.worker_runs.specs.declared.ending.WorkersEnding.TheVariants as workers
use Rattle.plant_tasks.specs.declared.ending.PlantEnding.TheVariants.{Memory}
use Rattle.plant_tasks.specs.Ending as plant
use Rattle.plant_tasks.specs.Paths.{plant_alone}
use Rattle.bip_image.specs.declared.ending.Paths.{Paths}
use Rattle.bip_image.specs.declared.ending.Ending.{Ending}
use Rattle.bip_image.specs.declared.ending.Ending.TheVariants.{OfPlant, Script, ScriptUnread, ImageUnopened, Image, NewUnopened, Migrate, NotRight, Stopped, LongText, Doubted, Careful}
use Rattle.image_backup.specs.declared.copying.BackupEnding.{BackupEnding}
use Rattle.image_backup.specs.declared.copying.BackupEnding.TheVariants as copying
use Rattle.image_backup.specs.declared.fault.BackupFault.{BackupFault}
use Rattle.image_backup.specs.declared.fault.BackupFault.TheVariants as backup
use Rattle.image_commands.specs.declared.refusal.ImageRefusal.TheVariants as refused
use Rattle.image_inspection.specs.declared.ending.InspectionEnding.{InspectionEnding}
use Rattle.image_inspection.specs.declared.ending.InspectionEnding.TheVariants as inspecting
use Rattle.plant_image.specs.declared.fault.ImageFault.TheVariants as fault
use Rattle.plant_service.specs.declared.ending.ServiceEnding.{ServiceEnding}
use Rattle.plant_service.specs.declared.ending.ServiceEnding.TheVariants as service
use Rattle.restated_text.specs.declared.fault.RestateFault.{RestateFault}
use Rattle.restated_text.specs.declared.fault.RestateFault.TheVariants as restating
use Rattle.script_lines.specs.Strict.{is_failure, refusal_line as event_refusal_line}
use Rattle.text_io.specs.declared.reading.TheConstants.{MAX_TEXT}

-- the exit status of a program that ends early: 1 a refused plant, script or image, or a stop that left what is not right, 2 usage, 3 a file, a device, the memory or the output
abbrev pub status_at : Ending → ℕ
status_at (OfPlant ending) = plant.status_at ending
status_at (Script line) = 1
status_at ScriptUnread = 3
status_at (ImageUnopened fault) = 3
status_at (Image ending) = endings.status_at ending
status_at (NewUnopened fault) = 3
status_at (Migrate ending) = migrate_status ending
status_at NotRight = 1
status_at (Stopped line refusal) = if is_failure refusal then 3 else 1
status_at LongText = 1
status_at Doubted = 1
status_at Careful = 1

-- the exit status of the program: 0 where it did what it was asked for
abbrev pub status_of : {A : Type 0} → Result A Ending → ℕ
status_of (Ok done) = 0
status_of (Err ending) = status_at ending

-- the ending where the file of the image is not opened or made
abbrev pub of_image_file : FileFault → Ending
of_image_file file.Memory = Image (image.Refused (refused.Image fault.Memory))
of_image_file why = ImageUnopened why

-- the ending where the file of a new image is not opened or made
abbrev pub of_new_file : FileFault → Ending
of_new_file file.Memory = Image (image.Refused (refused.Image fault.Memory))
of_new_file why = NewUnopened why

-- the ending where an exploration has no answer
abbrev pub of_exploring : ExploreEnding → Ending
of_exploring exploring.Memory = OfPlant Memory
of_exploring exploring.Unwritten = Image image.Unwritten

-- the ending where a run by workers ends early
abbrev pub of_workers : WorkersEnding → Ending
of_workers workers.Memory = OfPlant Memory
of_workers (workers.Image ending) = Image ending

-- the ending where serving a plant ends early
abbrev pub of_service : ServiceEnding → Ending
of_service (service.Image ending) = Image ending
of_service service.Memory = OfPlant Memory
of_service service.Unread = ScriptUnread

-- the ending where looking into an image ends early
abbrev pub of_inspection : InspectionEnding → Ending
of_inspection inspecting.Disk = Image (image.Refused refused.Disk)
of_inspection inspecting.Memory = Image (image.Refused (refused.Image fault.Memory))
of_inspection inspecting.Unwritten = Image image.Unwritten

-- the ending where an image is not copied
abbrev pub of_backup : BackupFault → Ending
of_backup (backup.Image fault) = Image (image.Refused (refused.Image fault))
of_backup backup.Disk = Image (image.Refused refused.Disk)
of_backup backup.CopyDisk = NewUnopened file.Unmade

abbrev pub of_copy : BackupEnding → Ending
of_copy (copying.Failed fault) = of_backup fault
of_copy copying.Unwritten = Image image.Unwritten

-- the ending where a text is not restated
abbrev pub of_restating : RestateFault → Ending
of_restating restating.TooLong = LongText
of_restating restating.Memory = OfPlant Memory
of_restating restating.Write = Image image.Unwritten

-- what is printed of an image's file that can't be opened or made
abbrev pub unopened_text : List ℕ → FileFault → List ℕ
unopened_text path file.InUse = codes "file " ++ path ++ codes " in use\n"
unopened_text path file.AlreadyThere = codes "file " ++ path ++ codes " is there\n"
unopened_text path fault = plant.file_line path

-- what is printed of a command on an image that ended early: its refusal; the answers of a run show that the device failed, and of one by workers the status alone
abbrev pub image_text : ImageEnding → List ℕ
image_text (image.Refused refusal) = refusal_line refusal ++ codes "\n"
image_text image.Failed = []
image_text image.Unwritten = []

-- what is printed if an image is not brought over
abbrev pub migrate_text : MigrateEnding → List ℕ
migrate_text (migrating.Refused refusal) = migrate_line refusal ++ codes "\n"
migrate_text migrating.Unwritten = []

-- what is printed of an ending, where the texts and the image are at these paths
abbrev pub told_text : Paths → Ending → List ℕ
told_text paths (OfPlant ending) = plant.told_text (plant_alone paths.plant) ending
told_text paths (Script line) = codes "script line " ++ decimal line ++ codes "\n"
told_text paths ScriptUnread = plant.file_line paths.script.now
told_text paths (ImageUnopened fault) = unopened_text paths.image.now fault
told_text paths (Image ending) = image_text ending
told_text paths (NewUnopened fault) = unopened_text paths.made.now fault
told_text paths (Migrate ending) = migrate_text ending
told_text paths NotRight = []
told_text paths Doubted = []
told_text paths Careful = codes "image: doubted, and not started from: --careful\n"
told_text paths (Stopped line refusal) = codes "error: " ++ paths.script.now ++ codes ":" ++ decimal line ++ codes ": " ++ event_refusal_line refusal ++ codes "\n"
told_text paths LongText = codes "error: the restated text has more than " ++ decimal MAX_TEXT ++ codes " bytes\n"

-- a sentence after the line of an ending
abbrev pub after_line : List ℕ → List ℕ
after_line sentence = codes "  " ++ sentence ++ codes "\n"

-- what more is printed of a command on an image that ended early
abbrev pub more_of_image : ImageEnding → List ℕ
more_of_image (image.Refused refusal) = after_line (advice_for refusal)
more_of_image image.Failed = []
more_of_image image.Unwritten = []

-- the same where an image is not brought over
abbrev pub more_of_migrating : MigrateEnding → List ℕ
more_of_migrating (migrating.Refused refusal) = after_line (migrate_advice refusal)
more_of_migrating migrating.Unwritten = []

-- what is printed after the line of an ending, if more is to be printed
abbrev pub more_text : Ending → List ℕ
more_text (Script line) = after_line (line_message line)
more_text (ImageUnopened fault) = after_line (message_of fault)
more_text (Image ending) = more_of_image ending
more_text (NewUnopened fault) = after_line (message_of fault)
more_text (Migrate ending) = more_of_migrating ending
more_text NotRight = after_line (codes "a power cut left what it must not leave: '--list' tells which; keep the plant and the script, and run this plant on no image")
more_text Careful = after_line (codes "nothing in it was changed; look into it by 'inspect', keep a copy, and start without '--careful' if it is as it should be")
more_text ending = []
