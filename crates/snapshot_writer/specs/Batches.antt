-- States of several atoms on their way to slots, and what storing them all at once leaves.
use Rattle.std.specs.Prelude.{◌≡◌, ◌≢◌, ◌⊎◌, ℕ, ◌+◌, ◌<◌, Bool, List, length, map, slice_get, slice_set, None, Some}
use Rattle.std.specs.List.{All, AllPairs, filter}
use Rattle.disk_model.specs.declared.cells.TheConstants.{BODY}
use Rattle.disk_model.specs.DiskState.{DiskState, IsSettled}
use Rattle.disk_model.specs.Cells.{Cell, cell, seen_cells}
use Rattle.record_codec.specs.Ring.{slot_cell}
use Rattle.record_codec.specs.Saved.{SavedFields}
use Rattle.record_codec.specs.declared.layout.TheConstants.{MOST_ATOMS}
use Rattle.snapshot_writer.specs.Parcels.{IsBodyOf, slot_body}
use Rattle.snapshot_writer.specs.Storing.{HoldsSaved}

-- A state, the slot of its atom that it goes in, and whether that slot is full.
pub record SlottedFields : Type 0 where
  pub slot : ℕ
  pub full : Bool
  pub saved : SavedFields

-- the cell that the state goes in
abbrev pub cell_of : SlottedFields → ℕ
cell_of s = slot_cell s.saved.atom s.slot

-- the cells that these states go in
abbrev pub cells_of : List SlottedFields → List ℕ
cells_of batch = map cell_of batch

-- those of them that are full
abbrev pub full_cells_of : List SlottedFields → List ℕ
full_cells_of batch = cells_of (filter (λ (s : SlottedFields). s.full) batch)

-- the bodies that are written into them
abbrev pub bodies_of : List SlottedFields → List (List ℕ)
bodies_of batch = map (λ (s : SlottedFields). slot_body s.saved) batch

-- the one state is of an atom with a smaller number
abbrev pub IsBelow : SlottedFields → SlottedFields → Type 0
IsBelow s t = s.saved.atom < t.saved.atom

-- The state is of an atom that there may be, goes in slot 0 or 1 of it, and its body is read as it.
pub record IsSlotted (s : SlottedFields) : Type 0 where
  pub slot : s.slot < 2
  pub atom : s.saved.atom < MOST_ATOMS
  pub body : IsBodyOf (slot_body s.saved) s.saved

-- The atoms of the states rise, and each state has a slot.
pub record IsBatch (batch : List SlottedFields) : Type 0 where
  pub rise : AllPairs IsBelow batch
  pub slotted : All IsSlotted batch

-- These are the cells of a batch of states, those of them that are full, and the bodies that go in them.
pub record AreOfBatch (batch : List SlottedFields) (cells full : List ℕ) (bodies : List (List ℕ)) : Type 0 where
  pub batch_is : IsBatch batch
  pub cells_are : cells ≡ cells_of batch
  pub full_are : full ≡ full_cells_of batch
  pub bodies_are : bodies ≡ bodies_of batch

-- none of these states goes in cell k
abbrev pub IsNoCellOf : List SlottedFields → ℕ → Type 0
IsNoCellOf batch k = (i : ℕ) (s : SlottedFields) → slice_get batch i ≡ Some s → k ≢ cell_of s

-- Each of the slots is as it was, empty, or holds its state, and every other cell is as it was.
pub record HaveStored (batch : List SlottedFields) (before cells : List Cell) : Type 0 where
  pub count : length cells ≡ length before
  pub each : (i : ℕ) (s : SlottedFields) → slice_get batch i ≡ Some s → (cell cells (cell_of s) ≡ cell before (cell_of s)) ⊎ (cell cells (cell_of s) ≡ None) ⊎ HoldsSaved s.saved (cell cells (cell_of s))
  pub others : (k : ℕ) → IsNoCellOf batch k → cell cells k ≡ cell before k

-- Each of the slots holds its state, every other cell reads as before, and a stop leaves these cells and nothing else.
pub record AreStored (batch : List SlottedFields) (old new : DiskState) : Type 0 where
  pub settled : IsSettled new.now
  pub stored : HaveStored batch (seen_cells (BODY + 1) old) (seen_cells (BODY + 1) new)
  pub held : (i : ℕ) (s : SlottedFields) → slice_get batch i ≡ Some s → HoldsSaved s.saved (cell (seen_cells (BODY + 1) new) (cell_of s))

-- the cells from before, but for the one that this state goes in
abbrev pub with_first : SlottedFields → List Cell → List Cell → List Cell
with_first s before cells = slice_set before (cell_of s) (cell cells (cell_of s))
