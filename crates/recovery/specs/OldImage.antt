-- An image of the first layout as one of today's, which says the same. So what judges today's images judges the old ones too.
use Rattle.std.specs.Prelude.{◌≡◌, ℕ, suc, ◌+◌, ◌<◌, ◌≤◌, ◌*◌, ◌-◌, ◌^◌, ◌==◌, min, nat_lt, if◌then◌else◌, List, [], ◌∷◌, Option, Some, length}
use Rattle.std.specs.Option.{option_map}
use Rattle.std.proofs.Common.{ap, arith, refl}
use Rattle.disk_model.specs.Cells.{Cell, cell, cells_in, seen_cells}
use Rattle.disk_model.specs.DiskState.{DiskState, size_of}
use Rattle.disk_model.specs.declared.cells.TheConstants.{FIRST_BODY}
use Rattle.petri_atom.specs.Local.{Local}
use Rattle.record_codec.specs.Bytes.{AreBytes}
use Rattle.record_codec.specs.FirstLayout.{todays_body, todays_identity, todays_record}
use Rattle.record_codec.specs.Ring.{device_cells, identity_cell}
use Rattle.plant_model.specs.Plant.{PlantDefinition}
use Rattle.plant_image.specs.Faults.{cell_bytes, fault_of}
use Rattle.plant_image.specs.Standing.{StandsFor}
use Rattle.plant_image.specs.Contents.{Contents, contents_of}
use Rattle.plant_image.specs.declared.standing.Standing.{Standing}
use Rattle.recovery.specs.Judged.{WasReadOf}
use Rattle.plant_image.specs.declared.fault.ImageFault.{ImageFault}

-- Today's body of one that stands in cell k of a device for so many atoms: of an identity in the first cell, of a base or a saved
-- state in front of the ring, and of a record in the ring.
abbrev pub todays_body_at : ℕ → ℕ → List ℕ → List ℕ
todays_body_at atoms k body = if k == identity_cell then todays_identity body else (if nat_lt k (device_cells atoms 0) then todays_body body else todays_record body)

-- today's cell of cell k: an empty cell is empty
abbrev pub todays_cell : ℕ → ℕ → Cell → Cell
todays_cell atoms k c = option_map (todays_body_at atoms k) c

-- the same of all cells from number k on
abbrev pub todays_from : ℕ → ℕ → List Cell → List Cell
todays_from atoms k [] = []
todays_from atoms k (c ∷ rest) = todays_cell atoms k c ∷ todays_from atoms (suc k) rest

-- today's cells of those of a device for so many atoms
abbrev pub todays_cells : ℕ → List Cell → List Cell
todays_cells atoms cells = todays_from atoms 0 cells

-- how many bytes today's cells take in place of so many: twice as many, as far as a u64 goes
abbrev pub todays_size : ℕ → ℕ
todays_size bytes = min (bytes * 2) (2 ^ 64 - 1)

-- each body of these cells is one of the first layout, byte for byte
abbrev pub AreOldCells : List Cell → Type 0
AreOldCells cells = (k : ℕ) (body : List ℕ) → cell cells k ≡ Some body → AreBytes body × (length body ≡ FIRST_BODY)

-- What is wrong with an image of the first layout, of so many bytes: what is wrong with today's image of it.
abbrev pub old_fault_of : PlantDefinition → List ℕ → ℕ → List Cell → Option ImageFault
old_fault_of plant digest bytes cells = fault_of plant digest (todays_size bytes) (todays_cells (length plant.atoms) cells)

-- An image of the first layout stands for a state and a number if today's image of it does.
abbrev pub OldStandsFor : PlantDefinition → List ℕ → ℕ → List Cell → List Local → ℕ → Type 0
OldStandsFor plant digest bytes cells states number = StandsFor plant digest (todays_size bytes) (todays_cells (length plant.atoms) cells) states number

-- what the old cells hold, as today's contents
abbrev pub old_contents : PlantDefinition → List Cell → Contents
old_contents plant cells = contents_of (length plant.atoms) (todays_cells (length plant.atoms) cells)

-- What stands was read of today's image of what a device of the first layout holds.
abbrev pub OldWasRead : PlantDefinition → List ℕ → DiskState → Standing → Type 0
OldWasRead plant digest s standing = WasReadOf plant digest (todays_size (size_of s)) s.keeps (todays_cells (length plant.atoms) (seen_cells (FIRST_BODY + 1) s)) standing

-- ---- the two layouts side by side

-- each cell has one of today's
length-todays_from : (atoms k : ℕ) (cells : List Cell) → length (todays_from atoms k cells) ≡ length cells
length-todays_from atoms k [] = refl
length-todays_from atoms k (c ∷ rest) = ap suc (length-todays_from atoms (suc k) rest)

pub length-todays_cells : (atoms : ℕ) (cells : List Cell) → length (todays_cells atoms cells) ≡ length cells
length-todays_cells atoms cells = length-todays_from atoms 0 cells

-- the bytes tell no more cells than there are
pub no_more_same : (n : ℕ) → cells_in cell_bytes n ≤ cells_in cell_bytes n
no_more_same n = omega arith

pub no_more_todays : (n : ℕ) → cells_in cell_bytes (todays_size n) ≤ cells_in (FIRST_BODY + 1) n
no_more_todays n = omega arith

-- and exactly as many, if a u64 tells it
pub exact_todays : (n : ℕ) → cells_in cell_bytes (todays_size n) < 2 ^ 54 - 1 → cells_in cell_bytes (todays_size n) ≡ cells_in (FIRST_BODY + 1) n
exact_todays n told = omega arith
