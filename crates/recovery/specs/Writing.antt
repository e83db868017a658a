-- What writing a state afresh leaves of a device, wherever a stop falls, and what it has made at its end.
use Rattle.std.specs.Prelude.{◌≡◌, ◌≢◌, ◌⊎◌, ℕ, ◌+◌, ◌<◌, List, None, Some, slice_get}
use Rattle.disk_model.specs.DiskState.{DiskState, IsSettled, size_of}
use Rattle.disk_model.specs.Cells.{Cell, MayBe, cell, seen_cells}
use Rattle.disk_model.specs.declared.cells.TheConstants.{BODY}
use Rattle.petri_atom.specs.Local.{Local}
use Rattle.record_codec.specs.Ring.{identity_cell, slot_cell}
use Rattle.record_replay.specs.Records.{count_of}
use Rattle.snapshot_writer.specs.Parcels.{saved_by}
use Rattle.snapshot_writer.specs.Storing.{HoldsSaved}
use Rattle.plant_model.specs.Plant.{PlantDefinition}
use Rattle.plant_image.specs.Standing.{HoldsState, StandsFor}

-- Cells that a stop leaves of a device on which no identity is set yet: some that a stop in the old state might have left; or the first
-- cell is empty, so that the device reads as unformatted.
abbrev pub IsOldOrUnformatted : DiskState → List Cell → Type 0
IsOldOrUnformatted old cells = MayBe (BODY + 1) old cells ⊎ (cell cells identity_cell ≡ None)

-- Cells that a stop leaves of a device that is written afresh with a state and a number: some that a stop at its start might have left; or the
-- first cell is empty, so that the device reads as unformatted; or they stand for that state and that number.
abbrev pub IsWriting : PlantDefinition → List ℕ → List Local → ℕ → DiskState → List Cell → Type 0
IsWriting plant digest states number old cells = MayBe (BODY + 1) old cells ⊎ ((cell cells identity_cell ≡ None) ⊎ StandsFor plant digest (size_of old) cells states number)

-- The device is written afresh for the plant and a ring of so many records with a state in which each atom has taken part so often, and a
-- number. A stop leaves what a read gives and nothing else, and that stands for the state and the number.
pub record HasWritten (plant : PlantDefinition) (digest : List ℕ) (ring : ℕ) (states : List Local) (counts : List ℕ) (number : ℕ) (s : DiskState) : Type 0 where
  pub settled : IsSettled s.now
  pub cells : HoldsState plant digest ring (size_of s) states counts number (seen_cells (BODY + 1) s)
  pub stands : (cells : List Cell) → MayBe (BODY + 1) s cells → StandsFor plant digest (size_of s) cells states number

-- ---- on the way

-- Each cell is empty, and a stop leaves these cells and nothing else.
pub record IsBlank (s : DiskState) : Type 0 where
  pub settled : IsSettled s.now
  pub empty : (k : ℕ) → cell (seen_cells (BODY + 1) s) k ≡ None

-- cell k is slot 0 of none of so many atoms
abbrev pub IsNoFirstSlot : ℕ → ℕ → Type 0
IsNoFirstSlot atoms k = (atom : ℕ) → atom < atoms → k ≢ slot_cell atom 0

-- Slot 0 of each of the first so many atoms holds its state, saved at the number with its count; every other cell reads as before, and a
-- stop leaves these cells and nothing else.
pub record HasStoredStates (atoms : ℕ) (states : List Local) (counts : List ℕ) (number : ℕ) (old new : DiskState) : Type 0 where
  pub settled : IsSettled new.now
  pub stored : (atom : ℕ) (state : Local) → atom < atoms → slice_get states atom ≡ Some state
      → HoldsSaved (saved_by atom (count_of counts atom) number state) (cell (seen_cells (BODY + 1) new) (slot_cell atom 0))
  pub others : (k : ℕ) → IsNoFirstSlot atoms k → cell (seen_cells (BODY + 1) new) k ≡ cell (seen_cells (BODY + 1) old) k
