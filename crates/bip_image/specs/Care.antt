-- What is known of an image from which a plant is started with care.
use Rattle.std.specs.Prelude.{Bool, ◌&&◌, is_none, Some}
use Rattle.disk_model.specs.DiskState.{DiskState, size_of}
use Rattle.image_inspection.specs.Inspected.{inspected_cells}
use Rattle.image_inspection.specs.Verdicts.{verdict_on}
use Rattle.plant_model.specs.declared.system.System.{System}

-- a boot of the plant would take the image on the device, and an inspection has a doubt about it
abbrev pub is_in_doubt : System → DiskState → Bool
is_in_doubt system s = let verdict = verdict_on (Some system) (size_of s) (inspected_cells s) in is_none verdict.fault && verdict.doubtful
