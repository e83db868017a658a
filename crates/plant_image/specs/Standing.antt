-- Which state of a plant an image stands for.
use Rattle.std.specs.Prelude.{◌≡◌, ℕ, ◌+◌, ◌-◌, ◌*◌, ◌≤◌, ◌<◌, ◌++◌, List, None, Some, Ok, length, take, drop, replicate, slice_get, slice_set, true}
use Rattle.std.specs.List.{list_all}
use Rattle.petri_atom.specs.Local.{Local}
use Rattle.petri_atom.specs.Definition.{AtomDefinition}
use Rattle.plant_model.specs.Fitting.{IsOf, AllFit}
use Rattle.plant_model.specs.Plant.{PlantDefinition}
use Rattle.plant_model.specs.Step.{initial_states}
use Rattle.disk_model.specs.Cells.{Cell, cell}
use Rattle.disk_model.specs.declared.cells.TheConstants.{BODY}
use Rattle.record_codec.specs.Base.{base_bytes}
use Rattle.record_codec.specs.Bytes.{padded}
use Rattle.record_codec.specs.Fired.{FiredFields}
use Rattle.record_codec.specs.Identity.{IdentityFields, identity_bytes}
use Rattle.record_codec.specs.Ring.{identity_cell, base_cell, slot_cell, record_cell, device_cells}
use Rattle.record_codec.specs.Saved.{SavedFields}
use Rattle.record_codec.specs.declared.layout.TheConstants.{LAST_NUMBER}
use Rattle.record_replay.specs.Records.{count_of}
use Rattle.record_replay.specs.Replay.{replay_from, is_included}
use Rattle.snapshot_writer.specs.Parcels.{saved_by}
use Rattle.snapshot_writer.specs.Storing.{HoldsSaved}
use Rattle.plant_image.specs.Contents.{Contents, contents_of, copied_at, last_number, most_firings, saved_position, replayed, states_of}
use Rattle.plant_image.specs.Faults.{cell_bytes, fault_of}
use Rattle.plant_image.specs.declared.counts.TheConstants.{MOST_AHEAD}

-- An image of so many bytes with these cells stands for a state of the plant with this digest and for the number of the last
-- record: nothing is wrong with it, its records lead to that state, and the last of them has that number.
pub record StandsFor (plant : PlantDefinition) (digest : List ℕ) (bytes : ℕ) (cells : List Cell) (states : List Local) (number : ℕ) : Type 0 where
  pub sound : fault_of plant digest bytes cells ≡ None
  pub states_are : states_of plant (contents_of (length plant.atoms) cells) ≡ states
  pub number_is : last_number (contents_of (length plant.atoms) cells) ≡ number

-- The contents lead to a state of the plant in which each atom has taken part so often, and to a number: the last record has that
-- number, each atom is brought there by the records from its saved state, none has taken part more often than there were firings, or more often than the
-- records and the base allow, and no saved state was copied later than a plant can have been ahead.
pub record Leads (plant : PlantDefinition) (c : Contents) (states : List Local) (counts : List ℕ) (number : ℕ) : Type 0 where
  pub last : c.base + length c.records ≡ number + 1
  pub as_many : length states ≡ length plant.atoms
  pub counted : length plant.atoms ≤ length counts
  pub each : (atom : ℕ) (a : AtomDefinition) (s : Local) → slice_get plant.atoms atom ≡ Some a → slice_get states atom ≡ Some s
      → replayed c atom a ≡ Ok (record { state = s; count = count_of counts atom })
  pub within : (atom : ℕ) → atom < length plant.atoms → count_of counts atom ≤ number
  pub accounted : (atom : ℕ) → atom < length plant.atoms → count_of counts atom ≤ most_firings c atom
  pub copied : (atom : ℕ) → atom < length plant.atoms → copied_at c atom ≤ number + MOST_AHEAD

-- the contents with more records after the last
abbrev pub with_records : List FiredFields → Contents → Contents
with_records news c = record c { records = c.records ++ news }

-- the contents with another newest state of its atom
abbrev pub with_saved : SavedFields → Contents → Contents
with_saved saved c = record c { slots = slice_set c.slots saved.atom saved }

-- the contents without the records before a base
abbrev pub cut_to : ℕ → ℕ → Contents → Contents
cut_to base_cell base c = record c { base_cell = base_cell; base = base; records = drop (base - c.base) c.records }

-- A state of an atom is on the way of its replay: the records up to the one that was last when it was copied bring the atom there.
pub record IsOnTheWay (c : Contents) (a : AtomDefinition) (saved : SavedFields) : Type 0 where
  pub from : c.base ≤ saved.at + 1
  pub later : (saved_position c saved.atom).count ≤ saved.count
  pub reached : replay_from a saved.atom (saved_position c saved.atom) (take (saved.at + 1 - c.base) c.records)
      ≡ Ok (record { state = record { marking = saved.marking; values = saved.values }; count = saved.count })

-- each atom's newest state includes each of these records
abbrev pub AreIncluded : Contents → List FiredFields → Type 0
AreIncluded c records = (atom : ℕ) → list_all (is_included atom (saved_position c atom).count) records ≡ true

-- what a device is formatted for
abbrev pub identity_for : PlantDefinition → List ℕ → ℕ → IdentityFields
identity_for plant digest ring = record { atoms = length plant.atoms; ring = ring; digest = digest }

-- A state of the plant, in which each atom has taken part so often and the last record has this number, has room on a device: there is a
-- state for each atom, which fits it, and a count, which is not above the number.
pub record HasRoom (plant : PlantDefinition) (states : List Local) (counts : List ℕ) (number : ℕ) : Type 0 where
  pub of_plant : IsOf plant states
  pub fits : AllFit plant states
  pub counted : length plant.atoms ≤ length counts
  pub within : (atom : ℕ) → atom < length plant.atoms → count_of counts atom ≤ number
  pub number_within : number ≤ LAST_NUMBER

-- What a device of so many bytes holds that is written afresh with a state, for a plant with this digest and a ring of so many records: the
-- identity, the base after the number in the first base cell, and in slot 0 of each atom its state, saved at the number with its count. All
-- other cells are empty.
pub record HoldsState (plant : PlantDefinition) (digest : List ℕ) (ring bytes : ℕ) (states : List Local) (counts : List ℕ) (number : ℕ) (cells : List Cell) : Type 0 where
  pub size : bytes ≡ cell_bytes * device_cells (length plant.atoms) ring
  pub count : length cells ≡ device_cells (length plant.atoms) ring
  pub identity : cell cells identity_cell ≡ Some (padded BODY (identity_bytes (identity_for plant digest ring)))
  pub base : cell cells (base_cell 0) ≡ Some (padded BODY (base_bytes (number + 1)))
  pub no_base : cell cells (base_cell 1) ≡ None
  pub slots : (atom : ℕ) (state : Local) → slice_get states atom ≡ Some state → HoldsSaved (saved_by atom (count_of counts atom) number state) (cell cells (slot_cell atom 0))
  pub no_slots : (atom : ℕ) → atom < length plant.atoms → cell cells (slot_cell atom 1) ≡ None
  pub no_records : (n : ℕ) → cell cells (record_cell (length plant.atoms) ring n) ≡ None

-- at first no atom has taken part
abbrev pub first_counts : PlantDefinition → List ℕ
first_counts plant = replicate (length plant.atoms) 0

-- What a freshly formatted device holds: the first state of the plant, in which no atom has taken part, and the number 0. So its base is 1.
abbrev pub IsFormatted : PlantDefinition → List ℕ → ℕ → ℕ → List Cell → Type 0
IsFormatted plant digest ring bytes cells = HoldsState plant digest ring bytes (initial_states plant) (first_counts plant) 0 cells
