-- How states of several atoms go to slots together, and which may be saved.
use Rattle.std.specs.Prelude.{◌≡◌, ℕ, ◌≤◌, ◌<◌, List, Some, map, is_some, slice_get}
use Rattle.petri_atom.specs.Local.{Local}
use Rattle.disk_model.specs.Cells.{Cell, cell}
use Rattle.plant_model.specs.Fitting.{AllFit, IsOf}
use Rattle.plant_model.specs.Plant.{PlantDefinition}
use Rattle.record_codec.specs.Ring.{slot_cell}
use Rattle.record_codec.specs.Saved.{SavedFields}
use Rattle.record_codec.specs.declared.layout.TheConstants.{LAST_NUMBER}
use Rattle.record_replay.specs.Records.{count_of}
use Rattle.snapshot_writer.specs.Batches.{SlottedFields}
use Rattle.snapshot_writer.specs.Slots.{other_slot}

-- this state on its way to the slot of its atom that does not hold the newest state on these cells
abbrev pub to_other_slot : List Cell → SavedFields → SlottedFields
to_other_slot cells saved =
    let slot = other_slot saved.atom cells in
    record { slot = slot; full = is_some (cell cells (slot_cell saved.atom slot)); saved = saved }

-- each of these states so
abbrev pub batch_of : List Cell → List SavedFields → List SlottedFields
batch_of cells states = map (to_other_slot cells) states

-- the states of a batch
abbrev pub states_in : List SlottedFields → List SavedFields
states_in batch = map (λ (s : SlottedFields). s.saved) batch

-- Each slot is 0 or 1.
abbrev pub AreSmall : List SlottedFields → Type 0
AreSmall batch = (i : ℕ) (s : SlottedFields) → slice_get batch i ≡ Some s → s.slot < 2

-- Each of these states of the plant, with its count and the number of the last record, may be saved: it fits its atom, and no atom has taken part more
-- often than there were records.
pub record AreSavable (plant : PlantDefinition) (states : List Local) (counts : List ℕ) (number : ℕ) : Type 0 where
  pub of_plant : IsOf plant states
  pub fits : AllFit plant states
  pub within : (atom : ℕ) → count_of counts atom ≤ number
  pub last : number ≤ LAST_NUMBER
