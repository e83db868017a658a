-- What is wrong with an image, in the order in which a restart looks for it.
use Rattle.std.specs.Prelude.{ℕ, suc, ◌+◌, ◌*◌, ◌^◌, ◌==◌, ◌&&◌, ◌||◌, Bool, true, false, not, nat_lt, if◌then◌else◌, is_none, List, [], ◌∷◌, Option, None, Some, length, map, take, Ok, Err, Result, option_and_then}
use Rattle.std.specs.List.{range_with_len}
use Rattle.std.specs.Option.{option_map_or}
use Rattle.std.specs.Str.{bytes_eq}
use Rattle.petri_atom.specs.Definition.{AtomDefinition}
use Rattle.plant_model.specs.Plant.{PlantDefinition}
use Rattle.plant_model.specs.Rules.{first_of, first_fault_in}
use Rattle.disk_model.specs.Cells.{Cell, cell}
use Rattle.disk_model.specs.declared.cells.TheConstants.{BODY}
use Rattle.record_codec.specs.Base.{base_in}
use Rattle.record_codec.specs.Fired.{FiredFields, fired_in}
use Rattle.record_codec.specs.Identity.{IdentityFields, identity_in, version_in}
use Rattle.record_codec.specs.Ring.{identity_cell, base_cell, slot_cell, record_cell, device_cells}
use Rattle.record_codec.specs.Saved.{SavedFields, saved_in}
use Rattle.record_codec.specs.declared.layout.TheConstants.{VERSION}
use Rattle.gated_journal.specs.Live.{live_among}
use Rattle.record_replay.specs.OfPlant.{is_record_of}
use Rattle.record_replay.specs.Replay.{Position}
use Rattle.record_replay.specs.declared.fault.ReplayFault.{ReplayFault}
use Rattle.record_replay.specs.declared.fault.ReplayFault.TheVariants as replays
use Rattle.plant_image.specs.Contents.{Contents, contents_of, copied_at, identity_held, ring_held, last_number, most_firings, replayed}
use Rattle.plant_image.specs.declared.counts.TheConstants.{MOST_AHEAD}
use Rattle.plant_image.specs.declared.fault.ImageFault.{ImageFault}
use Rattle.plant_image.specs.declared.fault.ImageFault.TheVariants.{NotFormatted, OtherVersion, OtherSystem, WrongSize, Damaged, Gap, NotEnabled}

-- the fault, if something is wrong
abbrev pub fault_where : Bool → ImageFault → Option ImageFault
fault_where wrong fault = if wrong then Some fault else None

-- the first of some faults
abbrev pub first_fault : List (Option ImageFault) → Option ImageFault
first_fault [] = None
first_fault (found ∷ rest) = first_of found (first_fault rest)

-- a cell is full, but its body is no value of a grammar that passes a test
abbrev pub is_full_but_not : {V : Type 0} → (List ℕ → Option V) → (V → Bool) → Cell → Bool
is_full_but_not grammar passes c = option_map_or (λ body. not (option_map_or passes (grammar body) false)) c false

-- any value passes
abbrev pub is_any : {V : Type 0} → V → Bool
is_any v = true

-- how many bytes a cell has: its gate and its body
abbrev pub cell_bytes : ℕ
cell_bytes = BODY + 1

-- ---- the first cell

-- no identity begins in it
abbrev pub is_unformatted : Cell → Bool
is_unformatted c = is_none (option_and_then version_in c)

-- it has another version of the layout
abbrev pub has_other_version : Cell → Bool
has_other_version c = option_map_or (λ version. not (version == VERSION)) (option_and_then version_in c) false

-- the device was formatted for so many atoms and this plant text
abbrev pub is_for : ℕ → List ℕ → IdentityFields → Bool
is_for atoms digest identity = identity.atoms == atoms && bytes_eq identity.digest digest

-- what is wrong with it, whatever the plant
abbrev pub first_cell_fault : Cell → Option ImageFault
first_cell_fault c = first_fault (
    fault_where (is_unformatted c) NotFormatted ∷
    fault_where (has_other_version c) OtherVersion ∷
    fault_where (is_full_but_not identity_in is_any c) (Damaged identity_cell) ∷
    [])

-- what is wrong with a device of so many bytes by its size and its first cell
abbrev pub identity_fault : ℕ → List ℕ → ℕ → List Cell → Option ImageFault
identity_fault atoms digest bytes cells = first_fault (
    fault_where (nat_lt bytes cell_bytes) WrongSize ∷
    first_cell_fault (cell cells identity_cell) ∷
    fault_where (not (option_map_or (is_for atoms digest) (identity_held cells) false)) OtherSystem ∷
    fault_where (not (bytes == cell_bytes * device_cells atoms (ring_held cells))) WrongSize ∷
    [])

-- ---- the base

-- what is wrong with base cell 0 or 1
abbrev pub base_cell_fault : List Cell → ℕ → Option ImageFault
base_cell_fault cells base = fault_where (is_full_but_not base_in is_any (cell cells (base_cell base))) (Damaged (base_cell base))

-- and with both: one is full with no base, or neither is full
abbrev pub base_fault : List Cell → Option ImageFault
base_fault cells = first_fault (
    base_cell_fault cells 0 ∷
    base_cell_fault cells 1 ∷
    fault_where (is_none (cell cells (base_cell 0)) && is_none (cell cells (base_cell 1))) (Damaged (base_cell 0)) ∷
    [])

-- ---- the slots

-- no place is marked that the atom does not have
abbrev pub marks_known : AtomDefinition → ℕ → Bool
marks_known a marking = nat_lt marking (2 ^ length a.places)

-- a saved state is one of the atom with a number: it has a value for each variable, and marks no place that the atom has not
abbrev pub is_of_atom : ℕ → AtomDefinition → SavedFields → Bool
is_of_atom atom a saved = saved.atom == atom && length saved.values == length a.variables && marks_known a saved.marking

-- what is wrong with a slot of an atom
abbrev pub slot_fault : List Cell → ℕ → AtomDefinition → ℕ → Option ImageFault
slot_fault cells atom a slot =
    fault_where (is_full_but_not saved_in (is_of_atom atom a) (cell cells (slot_cell atom slot))) (Damaged (slot_cell atom slot))

-- and with both: one is full with no state of the atom, or both are empty
abbrev pub atom_fault : List Cell → ℕ → AtomDefinition → Option ImageFault
atom_fault cells atom a = first_fault (
    slot_fault cells atom a 0 ∷
    slot_fault cells atom a 1 ∷
    fault_where (is_none (cell cells (slot_cell atom 0)) && is_none (cell cells (slot_cell atom 1))) (Damaged (slot_cell atom 0)) ∷
    [])

-- ---- the records

-- a record that ends the live ones by its number, or one of the plant
abbrev pub ends_or_fits : PlantDefinition → ℕ → FiredFields → Bool
ends_or_fits plant n r = not (r.number == n) || is_record_of plant r

-- what is wrong with the cell of record n: it is full with no record, or with record n, which is none of the plant's
abbrev pub record_fault : PlantDefinition → List Cell → ℕ → ℕ → Option ImageFault
record_fault plant cells ring n =
    let k = record_cell (length plant.atoms) ring n in
    fault_where (is_full_but_not fired_in (ends_or_fits plant n) (cell cells k)) (Damaged k)

-- what is wrong with the cells of the live ones among the records of these numbers, and with the one that ends them
abbrev pub numbers_fault : PlantDefinition → List Cell → ℕ → List ℕ → Option ImageFault
numbers_fault plant cells ring numbers =
    let places = record_cell (length plant.atoms) ring in
    first_fault (map (record_fault plant cells ring) (take (suc (length (live_among cells places numbers))) numbers))

-- and with those of the live records
abbrev pub records_fault : PlantDefinition → List Cell → Option ImageFault
records_fault plant cells =
    let c = contents_of (length plant.atoms) cells in
    numbers_fault plant cells c.ring (range_with_len c.base c.ring)

-- ---- the replay

-- why the records do not bring an atom on, as it is told
abbrev pub told_of : ℕ → ReplayFault → ImageFault
told_of atom replays.Gap = Gap atom
told_of atom (replays.NotEnabled number) = NotEnabled number atom

abbrev pub fault_of_replay : ℕ → Result Position ReplayFault → Option ImageFault
fault_of_replay atom (Ok place) = None
fault_of_replay atom (Err fault) = Some (told_of atom fault)

abbrev pub replay_fault : Contents → ℕ → AtomDefinition → Option ImageFault
replay_fault c atom a = fault_of_replay atom (replayed c atom a)

-- ---- the counts

-- Records are missing at the end: an atom took part more often than the live records and the base allow, or its state was copied later than a plant can have been
-- ahead of its last record.
abbrev pub is_unaccounted : Contents → ℕ → ℕ → Bool
is_unaccounted c atom count = nat_lt (most_firings c atom) count || nat_lt (last_number c + MOST_AHEAD) (copied_at c atom)

-- the same of an atom where the records bring it, if they do
abbrev pub ends_unaccounted : Contents → ℕ → Result Position ReplayFault → Bool
ends_unaccounted c atom (Ok place) = is_unaccounted c atom place.count
ends_unaccounted c atom (Err fault) = false

abbrev pub count_fault : Contents → ℕ → AtomDefinition → Option ImageFault
count_fault c atom a = fault_where (ends_unaccounted c atom (replayed c atom a)) (Gap atom)

-- ---- all of it

-- what is wrong with the cells, before it is asked where the records lead
abbrev pub cells_fault : PlantDefinition → List ℕ → ℕ → List Cell → Option ImageFault
cells_fault plant digest bytes cells = first_fault (
    identity_fault (length plant.atoms) digest bytes cells ∷
    base_fault cells ∷
    first_fault_in (atom_fault cells) 0 plant.atoms ∷
    records_fault plant cells ∷
    [])

-- where the records do not lead
abbrev pub leading_fault : PlantDefinition → Contents → Option ImageFault
leading_fault plant c = first_fault (
    first_fault_in (replay_fault c) 0 plant.atoms ∷
    first_fault_in (count_fault c) 0 plant.atoms ∷
    [])

-- what is wrong with an image of so many bytes, for a plant whose text has this digest
abbrev pub fault_of : PlantDefinition → List ℕ → ℕ → List Cell → Option ImageFault
fault_of plant digest bytes cells = first_of (cells_fault plant digest bytes cells) (leading_fault plant (contents_of (length plant.atoms) cells))
