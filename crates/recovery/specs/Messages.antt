-- What is printed if a device is not formatted, if no plant is booted from it, and if an image is not brought over to a new one.
use Rattle.std.specs.Prelude.{ℕ, List, ◌++◌, codes}
use Rattle.plant_image.specs.Messages.{message_of}
use Rattle.recovery.specs.declared.fault.BootFault.{BootFault}
use Rattle.recovery.specs.declared.fault.BootFault.TheVariants as boot
use Rattle.recovery.specs.declared.fault.FormatFault.{FormatFault}
use Rattle.recovery.specs.declared.fault.FormatFault.TheVariants as format
use Rattle.recovery.specs.declared.fault.MigrateFault.{MigrateFault}
use Rattle.recovery.specs.declared.fault.MigrateFault.TheVariants as migrate

-- what a fault of formatting says of the device to a person
abbrev pub format_message : FormatFault → List ℕ
format_message format.WrongSize = codes "it does not have the size that the plant and the ring ask for"
format_message format.Disk = codes "the device failed"
format_message format.Memory = codes "not enough memory to format it"

-- what a fault of booting says of the device to a person
abbrev pub boot_message : BootFault → List ℕ
boot_message (boot.Image fault) = message_of fault
boot_message boot.Disk = codes "the device failed"

-- what a fault of bringing an image over says of the two devices to a person
abbrev pub migrate_message : MigrateFault → List ℕ
migrate_message (migrate.Old (boot.Image fault)) = codes "the old device: " ++ message_of fault
migrate_message (migrate.Old boot.Disk) = codes "the old device failed"
migrate_message migrate.NewSize = codes "the new device does not have the size that the plant and the ring ask for"
migrate_message migrate.NewDisk = codes "the new device failed"
migrate_message migrate.Memory = codes "not enough memory to bring the image over"
