-- How large an image is, and how far it leads.
use Rattle.std.specs.Prelude.{◌≡◌, ℕ, ◌+◌, ◌*◌, length, List}
use Rattle.disk_model.specs.Cells.{Cell, seen_cells}
use Rattle.disk_model.specs.DiskState.{DiskState, size_of}
use Rattle.disk_model.specs.declared.cells.TheConstants.{BODY}
use Rattle.plant_image.specs.Contents.{contents_of, last_number}
use Rattle.image_backup.specs.Faults.{atoms_held}
use Rattle.image_backup.specs.declared.front.ImageFront.{ImageFront}

-- the number of the last record of an image with these cells
abbrev pub last_held : List Cell → ℕ
last_held cells = last_number (contents_of (atoms_held cells) cells)

-- the device has the size of so many cells
abbrev pub HasCells : ImageFront → DiskState → Type 0
HasCells front s = size_of s ≡ (BODY + 1) * front.cells
