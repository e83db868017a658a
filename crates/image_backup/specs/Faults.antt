-- Why an image is not copied.
use Rattle.std.specs.Prelude.{◌≡◌, ℕ, ◌*◌, ◌==◌, Bool, true, false, not, nat_lt, List, [], ◌∷◌, Option, None, Some, Result, Ok, Err}
use Rattle.std.specs.Option.{option_map_or}
use Rattle.disk_model.specs.Cells.{Cell, cell}
use Rattle.record_codec.specs.Identity.{IdentityFields}
use Rattle.record_codec.specs.Ring.{identity_cell, device_cells}
use Rattle.plant_image.specs.Contents.{identity_held, ring_held}
use Rattle.plant_image.specs.Faults.{base_fault, cell_bytes, fault_where, first_cell_fault, first_fault}
use Rattle.plant_image.specs.declared.fault.ImageFault.{ImageFault}
use Rattle.plant_image.specs.declared.fault.ImageFault.TheVariants.{WrongSize}
use Rattle.image_backup.specs.declared.fault.BackupFault.{BackupFault}
use Rattle.image_backup.specs.declared.fault.BackupFault.TheVariants.{Image, Disk, CopyDisk}

-- for how many atoms a device was formatted, by its first cell
abbrev pub atoms_held : List Cell → ℕ
atoms_held cells = option_map_or (λ (identity : IdentityFields). identity.atoms) (identity_held cells) 0

-- what is wrong with the size of a device of so many bytes and with its first cell, whatever the plant
abbrev pub size_fault : ℕ → List Cell → Option ImageFault
size_fault bytes cells = first_fault (
    fault_where (nat_lt bytes cell_bytes) WrongSize ∷
    first_cell_fault (cell cells identity_cell) ∷
    fault_where (not (bytes == cell_bytes * device_cells (atoms_held cells) (ring_held cells))) WrongSize ∷
    [])

-- why no image stands on a device of so many bytes
abbrev pub image_fault : ℕ → List Cell → Option ImageFault
image_fault bytes cells = first_fault (size_fault bytes cells ∷ base_fault cells ∷ [])

-- A check refuses what is wrong with the image; that the device failed says nothing of that.
abbrev pub IsRefusal : Option ImageFault → BackupFault → Type 0
IsRefusal found (Image fault) = found ≡ Some fault
IsRefusal found Disk = Unit {0}
IsRefusal found CopyDisk = ⊥

-- A part of the check answers by what is wrong with its part of the image: a value that has P if nothing is, and else the fault.
abbrev pub Judges : {V : Type 0} → Option ImageFault → (V → Type 0) → Result V BackupFault → Type 0
Judges found P (Ok value) = (found ≡ None) × P value
Judges found P (Err fault) = IsRefusal found fault

-- A check has no copy that could fail, whether or not the device keeps the disk model.
abbrev pub IsOfCheck : BackupFault → Type 0
IsOfCheck (Image fault) = Unit {0}
IsOfCheck Disk = Unit {0}
IsOfCheck CopyDisk = ⊥

-- the device of the image failed
abbrev pub is_disk : BackupFault → Bool
is_disk (Image fault) = false
is_disk Disk = true
is_disk CopyDisk = false

-- the device of the copy failed
abbrev pub is_copy_disk : BackupFault → Bool
is_copy_disk (Image fault) = false
is_copy_disk Disk = false
is_copy_disk CopyDisk = true

abbrev pub has_failed : {V : Type 0} → Result V BackupFault → Bool
has_failed (Ok value) = false
has_failed (Err fault) = is_disk fault

abbrev pub copy_has_failed : {V : Type 0} → Result V BackupFault → Bool
copy_has_failed (Ok value) = false
copy_has_failed (Err fault) = is_copy_disk fault

-- an image is copied or a device fails: nothing is refused
abbrev pub IsFailure : BackupFault → Type 0
IsFailure (Image fault) = ⊥
IsFailure Disk = Unit {0}
IsFailure CopyDisk = Unit {0}
