-- The fault of a boot, as a refusal, is what is wrong with the image.
use Rattle.std.proofs.Common.{Option}
use Rattle.plant_image.specs.declared.fault.ImageFault.{ImageFault}
use Rattle.recovery.specs.Booting.{IsBootFault}
use Rattle.recovery.specs.declared.fault.BootFault.{BootFault}
use Rattle.recovery.specs.declared.fault.BootFault.TheVariants as boot
use Rattle.image_commands.specs.Refusals.{IsRefusedBy, of_boot}

-- the fault of a boot, as a refusal, is what is wrong with the image
pub refused_by_boot : (found : Option ImageFault) (fault : BootFault) → IsBootFault found fault → IsRefusedBy found (of_boot fault)
refused_by_boot found (boot.Image fault) is = is
refused_by_boot found boot.Disk is = tt
