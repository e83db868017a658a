-- What storing a state leaves, and what a stop inside of it leaves.
use Rattle.std.specs.Prelude.{◌≡◌, ◌≢◌, ◌⊎◌, ℕ, ◌+◌, List, length, Some, None}
use Rattle.disk_model.specs.declared.cells.TheConstants.{BODY}
use Rattle.disk_model.specs.DiskState.{DiskState, IsSettled}
use Rattle.disk_model.specs.Cells.{Cell, cell, seen_cells}
use Rattle.record_codec.specs.Ring.{slot_cell}
use Rattle.record_codec.specs.Saved.{SavedFields}
use Rattle.snapshot_writer.specs.Parcels.{slot_body}
use Rattle.snapshot_writer.specs.Slots.{saved_of, newest, newest_slot, IsNotBelow}

-- The cell has the body of this state, and holds it.
pub record HoldsSaved (saved : SavedFields) (c : Cell) : Type 0 where
  pub body : c ≡ Some (slot_body saved)
  pub held : saved_of saved.atom c ≡ Some saved

-- The slot of the state's atom is as it was, empty, or holds the state, and every other cell is as it was.
pub record HasStored (slot : ℕ) (saved : SavedFields) (before cells : List Cell) : Type 0 where
  pub count : length cells ≡ length before
  pub here : (cell cells (slot_cell saved.atom slot) ≡ cell before (slot_cell saved.atom slot)) ⊎ (cell cells (slot_cell saved.atom slot) ≡ None) ⊎ HoldsSaved saved (cell cells (slot_cell saved.atom slot))
  pub others : (k : ℕ) → k ≢ slot_cell saved.atom slot → cell cells k ≡ cell before k

-- The slot of the state's atom holds the state, every other cell reads as before, and a stop leaves these cells and nothing else.
pub record IsStored (slot : ℕ) (saved : SavedFields) (old new : DiskState) : Type 0 where
  pub settled : IsSettled new.now
  pub count : length (seen_cells (BODY + 1) new) ≡ length (seen_cells (BODY + 1) old)
  pub here : HoldsSaved saved (cell (seen_cells (BODY + 1) new) (slot_cell saved.atom slot))
  pub others : (k : ℕ) → k ≢ slot_cell saved.atom slot → cell (seen_cells (BODY + 1) new) k ≡ cell (seen_cells (BODY + 1) old) k

-- The slot holds the state, and it is the newest of its atom. No newest one from before has a greater count.
pub record IsNewestNow (slot : ℕ) (saved : SavedFields) (before cells : List Cell) : Type 0 where
  pub here : HoldsSaved saved (cell cells (slot_cell saved.atom slot))
  pub newest_is : newest saved.atom cells ≡ Some saved
  pub slot_is : newest_slot saved.atom cells ≡ slot
  pub above : IsNotBelow saved (newest saved.atom before)

-- The newest state of the atom is the one from before, or this one.
abbrev pub IsKeptOrStored : ℕ → SavedFields → List Cell → List Cell → Type 0
IsKeptOrStored slot saved before cells = (newest saved.atom cells ≡ newest saved.atom before) ⊎ IsNewestNow slot saved before cells
