-- What a durable plant knows of the saved states of its atoms.
use Rattle.std.specs.Prelude.{◌≡◌, ℕ, ◌-◌, ◌<◌, if◌then◌else◌, nat_lt, List, [], ◌∷◌, Option, None, Some, filter_map, length, map, option_map, replicate, slice_get, slice_index_or, slice_set}
use Rattle.std.specs.List.{range_with_len}
use Rattle.petri_atom.specs.Local.{Local}
use Rattle.record_codec.specs.Saved.{SavedFields}
use Rattle.record_replay.specs.Records.{count_of}
use Rattle.snapshot_writer.specs.Batches.{SlottedFields}
use Rattle.snapshot_writer.specs.Parcels.{saved_by}
use Rattle.trimmer.specs.Covered.{saved_count}
use Rattle.trimmer.specs.declared.saved.SavedAt.{SavedAt}

-- Of the newest state in the slots of each atom how often the atom had taken part, and which record was the last then; a copy of each
-- state that was asked for and is not stored yet; and in which slot the next state of each atom goes, if that is known.
pub record SnapshotFields : Type 0 where
  pub saved : List SavedAt
  pub kept : List (Option SavedFields)
  pub next_slots : List (Option ℕ)

-- the state that is held for an atom, if one is
abbrev pub held_at : List (Option SavedFields) → ℕ → Option SavedFields
held_at held atom = slice_index_or held atom None

-- each state stands at the number of its own atom
abbrev pub AreOwn : List (Option SavedFields) → Type 0
AreOwn held = (atom : ℕ) (saved : SavedFields) → held_at held atom ≡ Some saved → saved.atom ≡ atom

-- a state in its atom's place
abbrev pub with_held : SavedFields → List (Option SavedFields) → List (Option SavedFields)
with_held saved held = slice_set held saved.atom (Some saved)

-- and none in its place
abbrev pub without : SavedFields → List (Option SavedFields) → List (Option SavedFields)
without saved held = slice_set held saved.atom None

-- what is known of a state that stands in a slot
abbrev pub known_of : SavedFields → SavedAt
known_of saved = record { count = saved.count; at = saved.at }

-- the state is the newest of its atom
abbrev pub with_known : SavedFields → List SavedAt → List SavedAt
with_known saved known = slice_set known saved.atom (known_of saved)

-- the slot in which the next state of an atom goes, if it is known
abbrev pub next_slot : List (Option ℕ) → ℕ → Option ℕ
next_slot slots atom = slice_index_or slots atom None

-- this slot of the atom was written, so its next state goes in the other
abbrev pub with_written : ℕ → ℕ → List (Option ℕ) → List (Option ℕ)
with_written atom slot slots = slice_set slots atom (Some (1 - slot))

-- a copy of the state is kept
abbrev pub with_copy : SavedFields → SnapshotFields → SnapshotFields
with_copy saved s = record s { kept = with_held saved s.kept }

-- the state is stored in this slot, and its copy given up
abbrev pub with_slot : SavedFields → ℕ → SnapshotFields → SnapshotFields
with_slot saved slot s = record { saved = with_known saved s.saved; kept = without saved s.kept; next_slots = with_written saved.atom slot s.next_slots }

-- the states of a batch are stored, each in its slot
abbrev pub with_slots : List SlottedFields → SnapshotFields → SnapshotFields
with_slots [] s = s
with_slots (t ∷ rest) s = with_slots rest (with_slot t.saved t.slot s)

-- these states stand in the slots of the atoms, none was asked for, and no slot was written yet
abbrev pub nothing_kept : List SavedFields → SnapshotFields
nothing_kept slots = record { saved = map known_of slots; kept = replicate (length slots) None; next_slots = replicate (length slots) None }

-- There is a place for a copy and for a slot of each atom whose newest state is known. Each copy stands in its own, and each slot is 0 or 1.
pub record AreSnapshots (s : SnapshotFields) : Type 0 where
  pub as_many : length s.kept ≡ length s.saved
  pub own : AreOwn s.kept
  pub slot_each : length s.next_slots ≡ length s.saved
  pub slots : (atom slot : ℕ) → next_slot s.next_slots atom ≡ Some slot → slot < 2

-- ---- states to be saved

-- the state of an atom as it is saved, where these are the states and counts of all and the last record has this number
abbrev pub copy_among : List ℕ → ℕ → List Local → ℕ → Option SavedFields
copy_among counts number states atom = option_map (saved_by atom (count_of counts atom) number) (slice_get states atom)

-- the same, if the atom has taken part more often than what is known of its newest saved state says
abbrev pub copy_if_behind : List SavedAt → List ℕ → ℕ → List Local → ℕ → Option SavedFields
copy_if_behind known counts number states atom = if nat_lt (saved_count known atom) (count_of counts atom) then copy_among counts number states atom else None

-- those of the first atoms, and those of all, in the order of the atoms
abbrev pub copies_below : List SavedAt → List ℕ → ℕ → List Local → ℕ → List SavedFields
copies_below known counts number states atoms = filter_map (copy_if_behind known counts number states) (range_with_len 0 atoms)

abbrev pub copies_behind : List SavedAt → List ℕ → ℕ → List Local → List SavedFields
copies_behind known counts number states = copies_below known counts number states (length states)
